use mathlib.Core.Path.{◌≡◌}
use lib.Seq.{sets}
use Rattle.message.specs.Bytes.{joined}
use Rattle.message.specs.Lists.{tabulate}
use Rattle.tree.proofs.TreeLaws.{leaf_at}
use Rattle.tree.proofs.put_leaves.Given as goal

abbrev pub invariant-loop-m : goal.invariant-loop-m
invariant-loop-m l = l.space ≡ sets l.initial.space 0 (joined (tabulate l.m (leaf_at l.layer l.per l.fn.height.levels l.values)))
