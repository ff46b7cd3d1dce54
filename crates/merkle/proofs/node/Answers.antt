-- `merkle::node` meets its contract: its message fits.
use mathlib.Core.Path.{◌∙◌}
use Rattle.merkle.proofs.MerkleLaws.{tagged_node}
use borrow.Author.Rules.{rules}
use Rattle.merkle.proofs.node.Goals as goal

pub returns : goal.returns
returns c = c.tagged_hash.ensures ∙ tagged_node _ _ (search rules) (search rules)
