-- What is claimed of the reader, for every hash, any arguments of the opening and every list of calls: the user's third demand, and what an accepted
-- file is (the second), as the answers of the reader's own calls.
use Rattle.std.specs.Prelude.{ℕ, ◌<◌, Bool, true, false, ◌||◌, List, ◌++◌, ◌↔◌, ◌≡◌, length, eqb}
use Rattle.answer.specs.Table.{answered, open_so_far, accepted, closed, too_few_bytes, is_fault}
use Rattle.message.specs.Message.{Digest}
use Rattle.message.specs.Bytes.{Bytes}
use Rattle.params.specs.declared.Terms.{Terms}
use Rattle.params.specs.Admission.{admission_of, Admitted}
use Rattle.fri.specs.Process.{run}
use Rattle.fri.specs.Size.{known_length}
use Rattle.fri.specs.Judge.{judgement, piece_answer, end_answer, verdict}
use Rattle.fri.specs.Accepted.{Accepted}
use Rattle.calls.specs.Calls.{Call, piece, end, has_end, ends_once, joined, state_left, given, nth, last_given, Refuses, Reader as Calls}
use Rattle.calls.specs.Plain.{Table, plain}
use Rattle.calls.specs.Demand3.{Demand3, PrefixRule, StateRule, SizeRule, to_piece}
use Rattle.calls.specs.Judged.{table_of}
use Rattle.reader_model.specs.declared.Reader.{Reader}
use Rattle.reader_model.specs.State.{stopped, closed_state}
use Rattle.reader_model.specs.Items.{sane}
use Rattle.reader_model.specs.Model.{opened, pieced, ended}

module _ (hash : List ℕ → Digest) (a : Terms) where
  -- Document 01's table of refusals, as the judgement gives it.
  abbrev pub table : Table
  table = table_of (judgement hash a.params a.context)

  -- The reader: the code's calls equal these, each by its contract.
  abbrev pub reader : Calls Reader
  reader = record {
    opened = (opened hash a).state;
    piece_next = λ r bytes. (pieced hash r bytes).state;
    piece_answer = λ r bytes. (pieced hash r bytes).answer;
    end_next = λ r. (ended r).state;
    end_answer = λ r. (ended r).answer;
  }

-- Whether the table has this number for such a call: only a piece can get 0, and only the end call 1 or 26.
abbrev pub is_number_for : Call → ℕ → Bool
is_number_for (piece bytes) number = is_fault number || eqb number closed || eqb number open_so_far
is_number_for end number = is_fault number || eqb number closed || eqb number too_few_bytes || eqb number accepted

-- An opening that is admitted, and then these calls.
pub record Opened (hash : List ℕ → Digest) (a : Terms) (cs : List Call) : Type 0 where
  pub answer : (opened hash a).answer ≡ answered open_so_far 0
  -- the third demand
  pub demand3 : Demand3 (table hash a) (reader hash a) cs
  -- a piece's answer, and the end call's, are those of the judgement on the bytes joined; the latter is the verdict on them as a file
  pub pieces : (xs : List ℕ) → has_end cs ≡ false
      → to_piece (reader hash a) cs xs ≡ piece_answer (run (judgement hash a.params a.context) (joined cs ++ xs) 0) (length (joined cs ++ xs))
  pub ends : ends_once cs ≡ true → last_given (reader hash a) cs ≡ end_answer (run (judgement hash a.params a.context) (joined cs) 0) (length (joined cs))
  pub verdicts : ends_once cs ≡ true → last_given (reader hash a) cs ≡ verdict hash a (joined cs)
  -- accepted, at their number, exactly if the bytes are the encoding of a proof that holds
  pub accepts : ends_once cs ≡ true → Bytes (joined cs)
      → (last_given (reader hash a) cs ≡ answered accepted (length (joined cs))) ↔ Accepted hash a.params a.context (joined cs)
  -- open only up to byte L, and accepted only at L and only by an end call; refused and closed states stay; equal prefixes get equal answers
  pub sizes : SizeRule (known_length a.params) (reader hash a) cs
  pub states : StateRule (reader hash a) cs
  pub prefixes : PrefixRule (reader hash a)
  -- what is left behind: by a refusal, the small part of a stopped reader with that answer; by an end call, the one closed state
  pub refused_core : (xs : List ℕ) → has_end cs ≡ false → Refuses (to_piece (reader hash a) cs xs)
      → ((reader hash a).piece_next (state_left (reader hash a) cs) xs).core ≡ stopped (to_piece (reader hash a) cs xs)
  pub closed_state_lem : has_end cs ≡ true → state_left (reader hash a) cs ≡ closed_state
  -- every state that is left keeps the bounds that each item is tested for, so the test never stops a reader
  pub within_bounds : sane (state_left (reader hash a) cs).core ≡ true

-- An opening that is refused: its number at 0, and from then on closed, as the plain reader that is closed from the start, in one
-- fixed state.
pub record Refused (hash : List ℕ → Digest) (a : Terms) (cs : List Call) : Type 0 where
  pub answer : (opened hash a).answer ≡ answered (admission_of a) 0
  pub plainly : given (reader hash a) cs ≡ given (plain (table hash a) true) cs
  pub closed_each : (i : ℕ) → i < length cs → nth (reader hash a) cs i ≡ answered closed 0
  pub fixed : state_left (reader hash a) cs ≡ closed_state
  -- the opening's answer is the verdict on any file
  pub verdicts : (file : List ℕ) → (opened hash a).answer ≡ verdict hash a file

pub record Claim : Type 0 where
  pub opened : (hash : List ℕ → Digest) (a : Terms) (cs : List Call) → Admitted a → Opened hash a cs
  pub refused : (hash : List ℕ → Digest) (a : Terms) (cs : List Call) → ¬ Admitted a → Refused hash a cs
