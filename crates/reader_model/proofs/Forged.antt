-- What calls answer in any state, one that no call made too: a number that the table has for such a call. Assumes nothing.
use Prim.Native.Nat.{ℕ, zero, suc, ◌<◌}
use mathlib.Core.Bool.{Bool, true, false, cond, ◌&&◌}
use mathlib.Core.List.{List, [], ◌∷◌, map}
use mathlib.Core.Path.{◌≡◌, refl, ap}
use native.Mathlib.Omega.{arith}
use lib.Dec.{leb, ltb}
use lib.ListN.{length, get_or}
use Rattle.answer.specs.declared.Answer.{Answer}
use Rattle.answer.specs.Table.{answered, open_so_far, accepted, closed, too_few_bytes, is_fault}
use Rattle.message.specs.Message.{Digest}
use Rattle.params.specs.declared.Terms.{Terms}
use Rattle.calls.specs.Calls.{Call, piece, end, next, reply, answers}
use Rattle.reader_model.specs.declared.Core.{Core}
use Rattle.reader_model.specs.declared.Reader.{Reader}
use Rattle.reader_model.specs.State.{closed_state}
use Rattle.reader_model.specs.Model.{fed, is_stopped, is_tail, open_answer, told, answer_of, pieced, ended}
use Rattle.reader_model.specs.Claim.{reader, is_number_for}
use Rattle.reader_model.proofs.Whole.{fold_stays}

-- An answer passes a test of numbers if every fault, 11 and the number of an open reader do.
module _ (passes : ℕ → Bool) (faults : (number : ℕ) → is_fault number ≡ true → passes number ≡ true) (shut : passes closed ≡ true) where
  told_passes : (kept : Answer) → passes (told kept).number ≡ true
  unfolding told
  told_passes kept = by (is_fault kept.number) refl
    where
      by : (b : Bool) → is_fault kept.number ≡ b → passes (told kept).number ≡ true
      by true e = rw e (faults kept.number e)
      by false e = rw e shut

  open_passes : (number : ℕ) → passes number ≡ true → (start fill : ℕ) → passes (open_answer number start fill).number ≡ true
  unfolding open_answer
  open_passes number going start fill = by (leb fill 32 && ltb start 2147483648) refl
    where
      by : (b : Bool) → (leb fill 32 && ltb start 2147483648) ≡ b → passes (open_answer number start fill).number ≡ true
      by true e = rw e going
      by false e = rw e shut

  answer_passes : (number : ℕ) → passes number ≡ true → (c : Core) → passes (answer_of c number).number ≡ true
  unfolding answer_of
  answer_passes number going c = by (is_stopped c.stage) refl
    where
      by : (b : Bool) → is_stopped c.stage ≡ b → passes (answer_of c number).number ≡ true
      by true e = rw e (told_passes c.answer)
      by false e = rw e (open_passes number going c.cursor.start c.fill)

module _ (hash : List ℕ → Digest) (a : Terms) where
  reply_in_the_table : (r : Reader) (c : Call) → is_number_for c (reply (reader hash a) r c).number ≡ true
  unfolding pieced ended
  reply_in_the_table r (piece bytes) =
      answer_passes (is_number_for (piece bytes)) (λ number e. rw e) refl open_so_far refl (fed hash r bytes).core
  reply_in_the_table r end =
      answer_passes (is_number_for end) (λ number e. rw e) refl _ (by (is_tail r.core.stage)) r.core
    where
      by : (b : Bool) → is_number_for end (cond b accepted too_few_bytes) ≡ true
      by true = refl
      by false = refl

  -- From any state on, the answer number i, to the call number i.
  pub in_the_table : (r : Reader) (cs : List Call) (i : ℕ) → i < length cs
      → is_number_for (get_or cs i end) (get_or (answers (reader hash a) r cs) i (answered closed 0)).number ≡ true
  in_the_table r [] i h = absurd (omega arith)
  in_the_table r (c ∷ cs) zero h = reply_in_the_table r c
  in_the_table r (c ∷ cs) (suc i) h = in_the_table (next (reader hash a) r c) cs i (omega arith)

  -- A stopped reader that keeps no fault is closed.
  pub closed_each : (r : Reader) → is_stopped r.core.stage ≡ true → is_fault r.core.answer.number ≡ false → (cs : List Call)
      → answers (reader hash a) r cs ≡ map (λ _. answered closed 0) cs
  unfolding pieced fed ended told answer_of
  closed_each r s f [] = refl
  closed_each r s f (piece bytes ∷ cs) = rw (fold_stays hash r bytes s, s, f) (ap (λ more. answered closed 0 ∷ more) (closed_each r s f cs))
  closed_each r s f (end ∷ cs) = rw (s, f) (ap (λ more. answered closed 0 ∷ more) (closed_each closed_state refl refl cs))
