use mathlib.Core.Path.{◌≡◌}
use Rattle.std.specs.Slice.Iter.{chunks_rest}
use Rattle.sha256.specs.Sha256.{sha256}
use Rattle.reader_model.specs.Model.{fed}
use Rattle.verdict.proofs.in_pieces.Given as goal

-- What is left, fed to the reader that is held, leaves the reader after the whole proof.
abbrev pub invariant-loop-part : goal.invariant-loop-part
invariant-loop-part l =
    goal.iterator-loop-part.can_next l.part-iterator
    × goal.iterator-loop-part.is_finite l.part-iterator
    × (fed sha256 l.reader (chunks_rest l.part-iterator) ≡ fed sha256 l.initial.reader l.proof)
