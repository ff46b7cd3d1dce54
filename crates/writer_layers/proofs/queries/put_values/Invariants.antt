use mathlib.Core.Path.{◌≡◌}
use lib.Seq.{sets}
use Rattle.message.specs.Bytes.{words}
use Rattle.tree.specs.Tree.{values_of}
use Rattle.writer_layers.proofs.queries.put_values.Given as goal

abbrev pub invariant-loop-r : goal.invariant-loop-r
invariant-loop-r l = l.file ≡ sets l.initial.file l.at (words (values_of l.r l.count l.values l.m))
