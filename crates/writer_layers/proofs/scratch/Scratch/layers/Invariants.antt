use mathlib.Core.Path.{◌≡◌}
use Rattle.writer_model.specs.Buffers.{buffers}
use Rattle.writer_layers.proofs.StepLaws.{After}
use Rattle.writer_layers.proofs.scratch.Scratch.layers.Given as goal

abbrev pub invariant-loop-index : goal.invariant-loop-index
invariant-loop-index l = record {
  valid_kept : l.self.valid ≡ l.initial.self.valid;
  done : After l.initial.self.valid.params (buffers l.initial.self.numbers.now l.initial.self.bytes.now l.initial.file l.initial.t.state) l.index l.self.numbers.now l.self.bytes.now l.file l.t.state;
}
