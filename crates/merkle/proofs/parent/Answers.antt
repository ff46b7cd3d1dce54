-- `merkle::parent` meets its contract: an even child stands left.
use mathlib.Core.Path.{◌∙◌, sym}
use Rattle.merkle.proofs.MerkleLaws.{parent_even, parent_odd}
use Rattle.merkle.proofs.parent.Goals as goal

pub returns-then-index-eq0 : goal.returns-then-index-eq0
returns-then-index-eq0 c = c.node.ensures ∙ sym (parent_even _ _ _ _ c.if-index-eq0.true)

pub returns-else-index-eq0 : goal.returns-else-index-eq0
returns-else-index-eq0 c = c.node-else-index-eq0.ensures ∙ sym (parent_odd _ _ _ _ c.if-index-eq0.false)
