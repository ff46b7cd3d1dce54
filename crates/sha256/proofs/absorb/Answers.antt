-- `sha256::absorb` meets its contract. The loop's invariant: the hash value is that after i blocks.
use mathlib.Core.Path.{refl}
use Rattle.sha256.specs.Constants.{initial_hash}
use Rattle.sha256.specs.Sha256.{absorb}
use Rattle.sha256.proofs.RoundLaws.{absorb-more}
use Rattle.sha256.proofs.absorb.Goals as goal

pub loop-i-init : goal.loop-i-init
unfolding absorb initial_hash
loop-i-init c = refl

pub loop-i-preserved : goal.loop-i-preserved
loop-i-preserved c = absorb-more _ _ c.loop-i.invariant c.load.ensures c.compress-next.ensures
