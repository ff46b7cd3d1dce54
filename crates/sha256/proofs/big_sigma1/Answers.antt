-- `sha256::big_sigma1` meets its contract: its body is the definition.
use Rattle.sha256.specs.Words.{big_sigma1, rotr}
use Rattle.sha256.proofs.big_sigma1.Goals as goal

pub returns : goal.returns
unfolding big_sigma1 rotr
returns c = rw (c.rotate_right-3.ensures, c.rotate_right-2.ensures, c.rotate_right.ensures)
