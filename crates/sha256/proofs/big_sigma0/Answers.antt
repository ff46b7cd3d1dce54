-- `sha256::big_sigma0` meets its contract: two of its rotations are made as one.
use Rattle.sha256.specs.Words.{big_sigma0, rotr}
use Rattle.sha256.proofs.big_sigma0.Goals as goal

pub returns : goal.returns
unfolding big_sigma0 rotr
returns c = rw (c.rotate_right.ensures, c.turned_twice.ensures)
