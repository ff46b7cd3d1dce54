-- `merkle::climb` meets its contract: after i turns the node is that of height i.
use mathlib.Core.Path.{◌∙◌, ap}
use Rattle.sha256.specs.Sha256.{sha256}
use Rattle.merkle.specs.Merkle as spec
use Rattle.merkle.proofs.MerkleLaws.{climb_more, climb_done, chunks_digests}
use Rattle.merkle.proofs.climb.Goals as goal

pub loop-sibling-preserved : goal.loop-sibling-preserved
loop-sibling-preserved c = climb_more _ _ _ _ _ c.loop-sibling-test.true c.parent-above.ensures c.loop-sibling.invariant

pub returns : goal.returns
returns c =
    climb_done _ _ _ _ _ c.loop-sibling-test.false c.loop-sibling.invariant
    ∙ ap (spec.climb sha256 c.args.leaf c.args.index) (c.as_chunks.ensures.front ∙ chunks_digests _ _)
