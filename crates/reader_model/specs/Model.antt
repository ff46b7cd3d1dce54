-- The reader's calls: one byte, a piece, the opening and the end call.
use Rattle.std.specs.Prelude.{ℕ, ◌+◌, Bool, cond, ◌&&◌, length, set, replicate, eqb, leb, ltb, List}
use mathlib.Core.List.{foldl}
use Rattle.std.proofs.lemmas.List.Edits.{sets}
use Rattle.answer.specs.declared.Answer.{Answer}
use Rattle.answer.specs.Table.{answered, open_so_far, accepted, closed, too_few_bytes, is_fault}
use Rattle.message.specs.Message.{Digest}
use Rattle.params.specs.declared.Params.{Params}
use Rattle.params.specs.declared.Terms.{Terms}
use Rattle.params.specs.Parameters.{header}
use Rattle.params.specs.Admission.{admission_of}
use Rattle.transcript.specs.Transcript.{start}
use Rattle.reader_model.specs.declared.Stage.{Stage}
use Rattle.reader_model.specs.declared.Stage.TheVariants.{ParameterCount}
use Rattle.reader_model.specs.declared.Core.{Core}
use Rattle.reader_model.specs.declared.Reader.{Reader}
use Rattle.reader_model.specs.declared.Reply.{Reply}
use Rattle.reader_model.specs.State.{item_length, whole, with_core, with_item, closed_state, no_cursor, no_walk, no_tables}
use Rattle.reader_model.specs.Items.{advanced}

-- One byte more of the current item.
abbrev pub stored : Reader → ℕ → Reader
stored r byte = with_core r (with_item r.core (set r.core.item r.core.fill byte) (r.core.fill + 1))

-- The state after one byte: whatever an item decides is decided at its last byte. A stopped reader stays as it is.
unfoldable pub step : (List ℕ → Digest) → Reader → ℕ → Reader
step hash r byte =
    cond (ltb r.core.fill (item_length r.core.stage))
    (cond (ltb (r.core.fill + 1) (item_length r.core.stage)) (stored r byte) (advanced hash (stored r byte)))
    r

-- The state after a piece.
unfoldable pub fed : (List ℕ → Digest) → Reader → List ℕ → Reader
fed hash r piece = foldl (step hash) r piece

-- A stopped reader reads no byte. The item of one byte is the one that no file has: it stands after a whole file.
abbrev pub is_stopped : Stage → Bool
is_stopped stage = eqb (item_length stage) 0

abbrev pub is_tail : Stage → Bool
is_tail stage = eqb (item_length stage) 1

-- The answer of a reader that is not stopped, of its item's start and fill: this number at the bytes so far. A state whose place is out of bounds is made
-- by no call.
unfoldable pub open_answer : ℕ → ℕ → ℕ → Answer
open_answer number start fill = cond (leb fill 32 && ltb start 2147483648) (answered number (start + fill)) (answered closed 0)

-- What a stopped reader tells of the answer that it keeps: the fault, or else that it is closed. So memory of zeros is a closed reader.
unfoldable pub told : Answer → Answer
told kept = cond (is_fault kept.number) kept (answered closed 0)

-- The answer of a reader in this state, where an open one answers with this number.
unfoldable pub answer_of : Core → ℕ → Answer
answer_of c number = cond (is_stopped c.stage) (told c.answer) (open_answer number c.cursor.start c.fill)

-- A reply put together from its parts.
abbrev pub replied : Answer → Core → List ℕ → List ℕ → List ℕ → Reply
replied a c roots challenges coefficients = record { answer = a; state = whole c roots challenges coefficients }

-- A piece: the answer and the state that it leaves.
unfoldable pub pieced : (List ℕ → Digest) → Reader → List ℕ → Reply
pieced hash r piece = record { answer = answer_of (fed hash r piece).core open_so_far; state = fed hash r piece }

-- Whether a piece ends inside the current item, so that nothing is decided; and the item's buffer with such a piece. Any other leaves it as it is.
abbrev pub ends_inside : Stage → ℕ → List ℕ → Bool
ends_inside stage fill piece = ltb (fill + length piece) (item_length stage)

unfoldable pub filled_item : Stage → ℕ → List ℕ → List ℕ → List ℕ
filled_item stage fill item piece = cond (ends_inside stage fill piece) (sets item fill piece) item

-- The end call: 1 for a whole file, else 26; a stopped reader's own answer. It leaves the closed state.
unfoldable pub ended : Reader → Reply
ended r = record { answer = answer_of r.core (cond (is_tail r.core.stage) accepted too_few_bytes); state = closed_state }

-- The state before any byte, from the transcript's first state.
unfoldable pub started : Params → Digest → Reader
started p first =
    record {
      core = record {
        stage = ParameterCount;
        answer = answered open_so_far 0;
        fill = 0;
        item = replicate 32 0;
        params = p;
        cursor = no_cursor;
        walk = no_walk;
        transcript = first;
      };
      tables = no_tables;
    }

-- The opening: where its arguments are not admitted it is refused, and the reader is closed.
unfoldable pub opened : (List ℕ → Digest) → Terms → Reply
opened hash a =
    record {
      answer = answered (admission_of a) 0;
      state = cond (eqb (admission_of a) open_so_far) (started a.params (start hash (header a.params) a.context)) closed_state;
    }
