use mathlib.Core.Path.{◌≡◌}
use lib.Seq.{sets}
use Rattle.message.specs.Bytes.{joined}
use Rattle.sha256.specs.Sha256.{sha256}
use Rattle.message.specs.Lists.{tabulate}
use Rattle.tree.proofs.TreeLaws.{pair_at}
use Rattle.tree.proofs.row.Given as goal

abbrev pub invariant-loop-i : goal.invariant-loop-i
invariant-loop-i l = l.above ≡ sets l.initial.above 0 (joined (tabulate l.i (pair_at sha256 l.below)))
