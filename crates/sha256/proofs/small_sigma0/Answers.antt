-- `sha256::small_sigma0` meets its contract: two of its rotations are made as one.
use Rattle.sha256.specs.Words.{small_sigma0, rotr, shr}
use Rattle.sha256.proofs.small_sigma0.Goals as goal

pub returns : goal.returns
unfolding small_sigma0 rotr shr
returns c = rw (c.turned_twice.ensures)
