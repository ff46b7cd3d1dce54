use Prim.Native.Nat.{◌+◌, ◌*◌}
use mathlib.Core.Path.{◌≡◌}
use lib.Seq.{sets}
use Rattle.params.specs.Parameters.{query_length}
use Rattle.writer_layers.proofs.QueryLaws.{opened}
use Rattle.writer_layers.proofs.scratch.Scratch.queries.Given as goal

abbrev pub invariant-loop-i : goal.invariant-loop-i
invariant-loop-i l = record {
  place : l.to ≡ l.at + l.i * query_length l.self.valid.params 0 l.self.valid.params.k;
  put : l.file ≡ sets l.initial.file l.at (opened l.self.valid.params l.fn.s.state l.self.numbers.now l.self.bytes.now l.i);
}
