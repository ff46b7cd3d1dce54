-- The look-up of one opening (document 01, "When the reader says no"): its answer, and the stretch of the file that it hands back. It doesn't judge.
use Rattle.std.specs.Prelude.{ℕ, ◌+◌, Bool, ◌&&◌, cond, List, [], eqb, ltb, length}
use Rattle.answer.specs.declared.Answer.{Answer}
use Rattle.answer.specs.Table.{answered, open_so_far, no_such_opening}
use Rattle.message.specs.Bytes.{part}
use Rattle.params.specs.declared.Params.{Params}
use Rattle.params.specs.Parameters.{opening_length, opening_offset, file_length}
use Rattle.params.specs.Admission.{admission, admits}
use Rattle.look_up.specs.declared.Span.{Span}

-- A file of a size has an opening of query i in layer j: the size is L, and there is such a query and such a layer.
unfoldable pub present : Params → ℕ → ℕ → ℕ → Bool
present p size i j = eqb size (file_length p) && (ltb i p.q && ltb j p.k)

-- The look-up finds the opening.
abbrev pub found : Params → ℕ → ℕ → ℕ → Bool
found p size i j = admits p && present p size i j

-- The number: first the admission's, then the opening's.
unfoldable pub look_up_number : ℕ → Bool → ℕ
look_up_number admitted isPresent = cond (eqb admitted open_so_far) (cond isPresent open_so_far no_such_opening) admitted

-- The answer, at place 0, and the part: the opening's bytes, or none.
unfoldable pub look_up_answer : Params → List ℕ → ℕ → ℕ → Answer
look_up_answer p file i j = answered (look_up_number (admission p) (present p (length file) i j)) 0

unfoldable pub look_up_part : Params → List ℕ → ℕ → ℕ → List ℕ
look_up_part p file i j = cond (found p (length file) i j) (part (opening_offset p i j) (opening_length p j) file) []

-- A span at place 0.
abbrev pub span_of : ℕ → ℕ → ℕ → Span
span_of number start length = record { number = number; place = 0; start = start; length = length }

-- The same as numbers, for a caller who takes the part: where it starts and how many bytes it has, 0 and 0 where there is none.
unfoldable pub look_up_span : Params → ℕ → ℕ → ℕ → Span
look_up_span p size i j =
    record {
      number = look_up_number (admission p) (present p size i j);
      place = 0;
      start = cond (found p size i j) (opening_offset p i j) 0;
      length = cond (found p size i j) (opening_length p j) 0;
    }

-- Where the part stands, for a file that stands at a place: in the file's own block of memory, as many bytes on as the span starts. A place is a block and
-- an offset in it, as a reference has it in the logic.
unfoldable pub look_up_place : Params → ℕ × ℕ → List ℕ → ℕ → ℕ → ℕ × ℕ
look_up_place p place file i j = (place.0, place.1 + (look_up_span p (length file) i j).start)
