-- `sha256::small_sigma1` meets its contract: two of its rotations are made as one.
use Rattle.sha256.specs.Words.{small_sigma1, rotr, shr}
use Rattle.sha256.proofs.small_sigma1.Goals as goal

pub returns : goal.returns
unfolding small_sigma1 rotr shr
returns c = rw (c.turned_twice.ensures)
