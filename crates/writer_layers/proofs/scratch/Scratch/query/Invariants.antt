use Prim.Native.Nat.{◌+◌}
use mathlib.Core.Path.{◌≡◌}
use lib.Seq.{sets}
use Rattle.params.specs.Parameters.{query_length}
use Rattle.writer_layers.proofs.QueryLaws.{openings}
use Rattle.writer_layers.proofs.scratch.Scratch.query.Given as goal

abbrev pub invariant-loop-index : goal.invariant-loop-index
invariant-loop-index l = record {
  place : l.to ≡ l.at + query_length l.self.valid.params 0 l.index;
  put : l.file ≡ sets l.initial.file l.at (openings l.self.valid.params l.m l.self.numbers.now l.self.bytes.now l.index);
}
