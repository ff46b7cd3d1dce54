-- `tree::put_leaves` meets its contract: after m turns the digests of the first m leaves are stored.
use mathlib.Core.Path.{refl, ◌∙◌}
use native.Mathlib.Omega.{arith}
use Rattle.message.specs.Bytes.{joined}
use Rattle.message.specs.Lists.{tabulate}
use Rattle.tree.proofs.TreeLaws.{leaves-more, leaves-done}
use Rattle.tree.proofs.put_leaves.Goals as goal

pub loop-m-init : goal.loop-m-init
unfolding tabulate joined
loop-m-init c = refl

pub loop-m-preserved : goal.loop-m-preserved
loop-m-preserved c =
    let a = c.args in
    c.put.ensures
    ∙ leaves-more a.layer a.per a.height.levels _ a.space.now a.values.now c.leaves-count.ensures.0
    _ c.loop-m.m (omega arith) (omega arith) c.loop-m.invariant c.values_of-leaf.ensures c.leaf_digest-digest.ensures

pub returns : goal.returns
returns c =
    let a = c.args in
    leaves-done a.layer a.per a.height.levels _ a.space.now a.values.now c.leaves-count.ensures.0 c.loop-m.m (omega arith) c.loop-m.invariant
