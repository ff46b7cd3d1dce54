-- Where a judgement has a width w, its file has w bytes: no reader that follows its table is open past them, and none accepts other than w. The proof
-- file's judgement is such. Assumes nothing.
use Prim.Native.Nat.{ℕ, zero, suc, ◌≤◌, ◌<◌}
use mathlib.Core.Bool.{true, false}
use mathlib.Core.List.{List, [], ◌∷◌, ◌++◌, append-nil, append_assoc}
use mathlib.Core.Option.{some, some_inj}
use mathlib.Core.Path.{◌≡◌, refl, sym, ap}
use native.Mathlib.Omega.{arith}
use lib.ListN.{length, take}
use Rattle.answer.specs.Table.{open_so_far, accepted}
use Rattle.params.specs.declared.Params.{Params}
use Rattle.params.specs.declared.Terms.{Terms}
use Rattle.params.specs.Admission.{Admitted}
use Rattle.params.proofs.AdmissionLaws.{admits_true}
use Rattle.message.specs.Message.{Digest}
use Rattle.fri.specs.Process.{Process, Result, run, left, outcome, bytes, done, short, refused, ended, ◌>>=◌, ◌>>◌}
use Rattle.fri.specs.Judge.{piece_answer, end_answer, count, sections, judgement, verdict}
use Rattle.fri.proofs.Process.{Width, Extent, extent, few, fault, full}
use Rattle.calls.specs.Calls.{Call, piece, end, ends_once, joined, Reader}
use Rattle.calls.specs.Plain.{after_piece, after_end}
use Rattle.calls.specs.Demand3.{SizeRule}
use Rattle.calls.specs.Judged.{table_of}
use Rattle.calls.proofs.Follows.{Follows, plainly, shut-answers, answers-plain}
use Rattle.calls.proofs.Judged.{Begins, plain-piece, plain_end}

module _ {p : Process} {w : ℕ} (width : Width p w) (begins : Begins p) where
  -- A number below 20 to a piece is 0 and to an end call 1, with what the table says of them: the judgement's refusals have numbers from 20 on.
  piece-number : (bs : List ℕ) → (after_piece (table_of p) bs).number < 20
      → ((after_piece (table_of p) bs).number ≡ open_so_far) × ((after_piece (table_of p) bs).place ≡ length bs) × (length bs ≤ w)
  unfolding piece_answer
  piece-number bs = rw (plain-piece p begins bs) (by (run p bs 0) (extent width bs 0))
    where
      by : (r : Result) → Extent w bs 0 r → (piece_answer r (length bs)).number < 20
          → ((piece_answer r (length bs)).number ≡ open_so_far) × ((piece_answer r (length bs)).place ≡ length bs) × (length bs ≤ w)
      by short (few h) n = (refl, refl, omega arith)
      by (refused c place) (fault g h i j) n = absurd (omega arith)
      by (ended [] place) (full h e) n = (refl, refl, omega arith)
      by (ended (x ∷ xs) place) (full h e) n = absurd (omega arith)

  end-number : (bs : List ℕ) → (after_end (table_of p) bs).number < 20
      → ((after_end (table_of p) bs).number ≡ accepted) × ((after_end (table_of p) bs).place ≡ w) × (length bs ≡ w)
  unfolding end_answer
  end-number bs = rw (plain_end p begins bs) (by (run p bs 0) (extent width bs 0))
    where
      by : (r : Result) → Extent w bs 0 r → (end_answer r (length bs)).number < 20
          → ((end_answer r (length bs)).number ≡ accepted) × ((end_answer r (length bs)).place ≡ w) × (length bs ≡ w)
      by short (few h) n = absurd (omega arith)
      by (refused c place) (fault g h i j) n = absurd (omega arith)
      by (ended [] place) (full h e) n = (refl, omega arith, omega arith)
      by (ended (x ∷ xs) place) (full h e) n = absurd (omega arith)

  -- The same of the plain reader's answer number i, where it holds bs.
  plain_open : (cs : List Call) (bs : List ℕ) (i : ℕ) → i < length cs → (plainly (table_of p) bs false cs i).number ≡ open_so_far
      → ((plainly (table_of p) bs false cs i).place ≡ length (bs ++ joined (take (suc i) cs))) × (length (bs ++ joined (take (suc i) cs)) ≤ w)
  plain_open [] bs i h n = absurd (omega arith)
  plain_open (piece xs ∷ cs) bs zero h n =
      let (_, there, within) = piece-number (bs ++ xs) (omega arith) in
      rw append-nil (there, within)
  plain_open (piece xs ∷ cs) bs (suc i) h n = rw (← append_assoc bs xs (joined (take (suc i) cs))) (plain_open cs (bs ++ xs) i (omega arith) n)
  plain_open (end ∷ cs) bs zero h n = absurd (omega (arith, end-number bs (omega arith)))
  plain_open (end ∷ cs) bs (suc i) h n = absurd (omega (arith, ap (λ a. a.number) (shut-answers (table_of p) cs bs i (omega arith))))

  plain-accepted : (cs : List Call) (bs : List ℕ) (i : ℕ) → i < length cs → (plainly (table_of p) bs false cs i).number ≡ accepted
      → (ends_once (take (suc i) cs) ≡ true) × (length (bs ++ joined (take (suc i) cs)) ≡ w) × ((plainly (table_of p) bs false cs i).place ≡ w)
  plain-accepted [] bs i h n = absurd (omega arith)
  plain-accepted (piece xs ∷ cs) bs zero h n = absurd (omega (arith, piece-number (bs ++ xs) (omega arith)))
  plain-accepted (piece xs ∷ cs) bs (suc i) h n =
      rw (← append_assoc bs xs (joined (take (suc i) cs))) (plain-accepted cs (bs ++ xs) i (omega arith) n)
  plain-accepted (end ∷ cs) bs zero h n =
      let (_, there, size) = end-number bs (omega arith) in
      rw append-nil (refl, size, there)
  plain-accepted (end ∷ cs) bs (suc i) h n = absurd (omega (arith, ap (λ a. a.number) (shut-answers (table_of p) cs bs i (omega arith))))

  -- Of any reader that follows the table, and every list of calls.
  pub size-rule : {S : Type 0} (r : Reader S) → Follows (table_of p) r → (cs : List Call) → SizeRule (λ _. some w) r cs
  size-rule r f cs = record {
    open_place = λ i h. rw (answers-plain (table_of p) r f cs) (λ n. (plain_open cs [] i h n).0);
    open_within = λ i h. rw (answers-plain (table_of p) r f cs) (λ n l e. omega (arith, plain_open cs [] i h n, some_inj.0 e));
    accepted_call = λ i h. rw (answers-plain (table_of p) r f cs) (λ n. (plain-accepted cs [] i h n).0);
    accepted_bytes = λ i h. rw (answers-plain (table_of p) r f cs) (λ n. ap some (sym (plain-accepted cs [] i h n).1));
    accepted_place = λ i h. rw (answers-plain (table_of p) r f cs) (λ n. omega (arith, plain-accepted cs [] i h n));
  }

-- The judgement of a proof file refuses nothing before the first byte, and the verdict on a whole file is the plain reader's answer to its end call.
module _ (hash : List ℕ → Digest) (p : Params) where
  pub sections_begin : (s : Digest) → Begins (sections hash p s (λ _. done))
  unfolding sections count bytes ◌>>=◌ ◌>>◌ run left outcome
  sections_begin s = refl

  pub judgement_begins : (context : List ℕ) → Begins (judgement hash p context)
  unfolding judgement
  judgement_begins context = sections_begin _

pub verdict-plain : (hash : List ℕ → Digest) (a : Terms) (file : List ℕ) → Admitted a
    → verdict hash a file ≡ after_end (table_of (judgement hash a.params a.context)) file
unfolding verdict
verdict-plain hash a file v =
    rw (admits_true a.params v)
    (sym (plain_end (judgement hash a.params a.context) (judgement_begins hash a.params a.context) file))
