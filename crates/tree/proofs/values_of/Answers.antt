-- `tree::values_of` meets its contract: after r turns the first r values of the leaf are there.
use mathlib.Core.Path.{refl}
use native.Mathlib.Omega.{arith}
use borrow.Author.Rules.{rules}
use Rattle.message.specs.Lists.{tabulate}
use Rattle.tree.specs.Tree.{values_of}
use Rattle.tree.proofs.TreeLaws.{values-more}
use Rattle.tree.proofs.values_of.Goals as goal

pub loop-r-init : goal.loop-r-init
unfolding values_of tabulate
loop-r-init c = record { four = refl; copied = refl }

pub loop-r-preserved : goal.loop-r-preserved
loop-r-preserved c = record {
  four = search rules;
  copied = values-more c.loop-r.leaf c.args.values.now c.args.count c.args.m c.loop-r.r (omega arith) c.loop-r.invariant.copied;
}
