-- `tree::row` meets its contract: after i turns the first i nodes are stored.
use mathlib.Core.Path.{refl, ◌∙◌}
use native.Mathlib.Omega.{arith}
use Rattle.message.specs.Bytes.{joined}
use Rattle.message.specs.Lists.{tabulate}
use Rattle.tree.proofs.TreeLaws.{row_more, row_done}
use Rattle.tree.proofs.row.Goals as goal

pub loop-i-init : goal.loop-i-init
unfolding tabulate joined
loop-i-init c = refl

pub loop-i-preserved : goal.loop-i-preserved
loop-i-preserved c = c.put.ensures ∙ row_more _ c.args.below.now c.loop-i.i (omega arith) c.loop-i.invariant c.node_above-node.ensures

pub returns : goal.returns
returns c = row_done _ c.args.below.now _ c.loop-i.i (omega arith) c.loop-i.invariant
