-- The claim about the reader holds, and feeding bytes in any pieces and ending gives the verdict on them. Assumes nothing.
use Prim.Native.Nat.{ℕ, zero, suc, ◌<◌}
use mathlib.Core.Bool.{Bool, true, false, false≢true}
use mathlib.Core.List.{List, [], ◌∷◌, ◌++◌, foldl, foldl-append}
use mathlib.Core.Path.{◌≡◌, refl, sym, ap, ◌∙◌}
use native.Mathlib.Omega.{arith}
use lib.ListN.{length, get_or}
use Rattle.answer.specs.Table.{answered, open_so_far, closed}
use Rattle.message.specs.Bytes
use Rattle.message.specs.Message.{Digest}
use Rattle.params.specs.declared.Terms.{Terms}
use Rattle.params.specs.Parameters.{header}
use Rattle.params.specs.Admission.{Admitted}
use Rattle.params.proofs.AdmissionLaws.{admitted-valid, admits_true, admits_false}
use Rattle.transcript.specs.Transcript.{start}
use Rattle.fri.specs.Judge.{judgement, verdict}
use Rattle.fri.proofs.Width.{sections_width}
use Rattle.fri.proofs.Exactly.{accepted_exactly}
use Rattle.calls.specs.Calls.{Call, piece, end, has_end, ends_once, joined, state_after, state_left, answers, last_given, by_byte, Reader as Calls}
use Rattle.calls.proofs.Follows.{Shut, state-left, shut_by_byte, refused_opening, refused_leaves}
use Rattle.calls.proofs.Denotes.{follows, denotes_demand3, denotes_states, denotes_prefix, denotes_size, piece_judged, end_judged, ends_judged}
use Rattle.reader_model.specs.declared.Reader.{Reader}
use Rattle.reader_model.specs.State.{closed_state}
use Rattle.reader_model.specs.Items.{sane}
use Rattle.reader_model.specs.Model.{step, fed, pieced, ended, started, opened}
use Rattle.reader_model.specs.Claim.{table, reader, Opened, Refused, Claim}
use Rattle.reader_model.proofs.Whole.{says, ends_with, Reached, reaches, started_reached, reached_sane, refused_core, shuts, denotes}

-- A piece after a piece is the one piece of both, so the pieces of a list are the one piece of all their bytes.
module _ (hash : List ℕ → Digest) where
  pub fed_none : (r : Reader) → fed hash r [] ≡ r
  unfolding fed
  fed_none r = refl

  pub fed-append : (r : Reader) (xs ys : List ℕ) → fed hash (fed hash r xs) ys ≡ fed hash r (xs ++ ys)
  unfolding fed
  fed-append r xs ys = sym (foldl-append (step hash) r xs ys)

  pub fed-joined : (r : Reader) (pieces : List (List ℕ)) → foldl (fed hash) r pieces ≡ fed hash r (Bytes.joined pieces)
  unfolding fed Bytes.joined
  fed-joined r [] = refl
  fed-joined r (xs ∷ pieces) = fed-joined (fed hash r xs) pieces ∙ fed-append r xs (Bytes.joined pieces)

module _ (hash : List ℕ → Digest) (a : Terms) where
  -- The transcript's first state, and the reader's.
  abbrev first : Digest
  first = start hash (header a.params) a.context

  abbrev beginning : Reader
  beginning = started a.params first

  -- The reader as one that goes byte by byte, from the state r on.
  abbrev from : Reader → Calls Reader
  from r = by_byte r (step hash) (says hash) ends_with closed_state

  -- An opening that is refused, and one that is admitted.
  refused_claim : ¬ Admitted a → (cs : List Call) → Refused hash a cs
  unfolding opened pieced fed ended verdict judgement
  refused_claim never cs =
      let e = admits_false a.params never in
      let shut = shut_by_byte closed_state (step hash) (says hash) ends_with closed_state (shuts hash first) in
      record {
        answer = refl;
        plainly = rw e (refused_opening (table hash a) (from closed_state) shut cs);
        closed_each = λ i h. rw e (each shut cs i h);
        fixed = rw e (refused_leaves (table hash a) (from closed_state) shut cs);
        verdicts = λ file. rw e;
      }
    where
      each : Shut (from closed_state) closed_state → (cs : List Call) (i : ℕ) → i < length cs
          → get_or (answers (from closed_state) closed_state cs) i (answered open_so_far 0) ≡ answered closed 0
      each shut [] i h = absurd (omega arith)
      each shut (piece xs ∷ cs) zero h = shut.piece-closed xs
      each shut (end ∷ cs) zero h = shut.end-closed
      each shut (piece xs ∷ cs) (suc i) h = rw (shut.piece-stays xs) (each shut cs i (omega arith))
      each shut (end ∷ cs) (suc i) h = each shut cs i (omega arith)

  module _ (v : Admitted a) where
    end-verdict : (cs : List Call) → ends_once cs ≡ true → last_given (reader hash a) cs ≡ verdict hash a (joined cs)
    unfolding opened pieced fed ended verdict judgement
    end-verdict cs e = rw (admits_true a.params v) (end_judged (denotes hash first a.params (admitted-valid a.params v)) cs e)

    -- Calls with no end call among them reach a state.
    reached : (cs : List Call) (r : Reader) → Reached hash first r → has_end cs ≡ false
        → Reached hash first (state_after (from beginning) r cs)
    reached [] r h e = h
    reached (piece xs ∷ cs) r h e = reached cs (foldl (step hash) r xs) (reaches hash first xs h) e
    reached (end ∷ cs) r h e = absurd (false≢true (sym e))

    -- What an end call leaves, and that every state is within the bounds.
    closing : (cs : List Call) → has_end cs ≡ true → state_left (reader hash a) cs ≡ closed_state
    unfolding opened pieced fed ended judgement
    closing cs e =
        let f = follows (denotes hash first a.params (admitted-valid a.params v)) in
        rw (admits_true a.params v) ((rw e at (state-left (table hash a) (from beginning) f cs)) ∙ sym (f.end-next []))

    bounded : (cs : List Call) (b : Bool) → has_end cs ≡ b → sane (state_left (reader hash a) cs).core ≡ true
    unfolding opened pieced fed ended sane
    bounded cs true e = ap (λ (r : Reader). sane r.core) (closing cs e)
    bounded cs false e =
        rw (admits_true a.params v)
        (reached_sane hash first (reached cs beginning (started_reached hash first a.params (admitted-valid a.params v)) e))

    opened_claim : (cs : List Call) → Opened hash a cs
    unfolding opened pieced fed ended judgement
    opened_claim cs =
        let d = denotes hash first a.params (admitted-valid a.params v) in
        record {
          answer = ap (λ n. answered n 0) v;
          demand3 = rw (admits_true a.params v) (denotes_demand3 d cs);
          pieces = rw (admits_true a.params v) (piece_judged d cs);
          ends = rw (admits_true a.params v) (end_judged d cs);
          verdicts = end-verdict cs;
          accepts = λ e below.
              let (there, back) = accepted_exactly hash a (joined cs) v below in
              (λ h. there (sym (end-verdict cs e) ∙ h), λ a. end-verdict cs e ∙ back a);
          sizes = rw (admits_true a.params v) (denotes_size d (sections_width hash a.params first) cs);
          states = rw (admits_true a.params v) (denotes_states d cs);
          prefixes = rw (admits_true a.params v) (denotes_prefix d);
          refused_core = λ xs e.
              rw (admits_true a.params v)
              (refused_core hash first (reaches hash first xs (reached cs beginning (started_reached hash first a.params (admitted-valid a.params v)) e)));
          closed_state_lem = closing cs;
          within_bounds = bounded cs (has_end cs) refl;
        }

    -- The end call after one piece, and after any pieces: the verdict on their bytes.
    pub verdict-fed : (bytes : List ℕ) → (ended (fed hash (opened hash a).state bytes)).answer ≡ verdict hash a bytes
    unfolding opened fed ended verdict judgement
    verdict-fed bytes = rw (admits_true a.params v) (ends_judged (denotes hash first a.params (admitted-valid a.params v)) bytes)

pub claim : Claim
claim = record {
  opened = λ hash a cs v. opened_claim hash a v cs;
  refused = λ hash a cs never. refused_claim hash a never cs;
}

-- The verdict where the opening is refused: its own answer.
pub verdict-refused : (hash : List ℕ → Digest) (a : Terms) (file : List ℕ) → ¬ Admitted a
    → (opened hash a).answer ≡ verdict hash a file
verdict-refused hash a file never = (refused_claim hash a never []).verdicts file
