-- Laws of `decide`: the refusal of the earliest byte that decides one. Assumes nothing.
use Prim.Native.Nat.{ℕ, zero, suc, ◌+◌, ◌-◌, ◌≤◌, ◌<◌}
use mathlib.Core.List.{List, [], ◌∷◌, ◌++◌}
use mathlib.Core.Logic.{◌↔◌}
use mathlib.Core.Option.{Option, none, some, map, some-injective}
use mathlib.Core.Path.{◌≡◌, refl, ap, ◌∙◌}
use native.Mathlib.Decide.{dec_le}
use native.Mathlib.Nat.{le_refl, zero-add, suc-add, add_comm}
use native.Mathlib.Omega.{arith}
use lib.ListN.{length, take, length-append}
use lib.Seq.{take-append-le, take_all}
use Rattle.answer.specs.declared.Answer.{Answer}
use Rattle.answer.specs.Table.{answered}
use Rattle.calls.specs.Plain.{Table, or_else, earliest, decide}

pub one_more : (bs : List ℕ) (b : ℕ) → length (bs ++ b ∷ []) ≡ suc (length bs)
one_more bs b = rw length-append (omega arith)

-- Byte e is the earliest byte of bs that decides a refusal, and decides number n.
pub record Earliest (t : Table) (bs : List ℕ) (n e : ℕ) : Type 0 where
  pub low : 0 < e
  pub high : e ≤ length bs
  pub decides : t.refusal (take e bs) ≡ some n
  pub none_before : (f : ℕ) → 0 < f → f < e → t.refusal (take f bs) ≡ none

module _ (t : Table) where
  -- The first d bytes decide the same, whatever follows; and what they decide stays.
  earliest-append : (d : ℕ) (bs xs : List ℕ) → d ≤ length bs → earliest t d (bs ++ xs) ≡ earliest t d bs
  earliest-append zero bs xs h = refl
  earliest-append (suc d) bs xs h = rw (earliest-append d bs xs (omega arith), take-append-le (suc d) bs xs h)

  earliest-stays : (m d : ℕ) (bs : List ℕ) (a : Answer) → earliest t d bs ≡ some a → earliest t (m + d) bs ≡ some a
  earliest-stays zero d bs a e = rw zero-add e
  earliest-stays (suc m) d bs a e = rw (suc-add, earliest-stays m d bs a e)

  pub decide-stays : (bs xs : List ℕ) (a : Answer) → decide t bs ≡ some a → decide t (bs ++ xs) ≡ some a
  unfolding decide
  decide-stays bs xs a e =
      rw (length-append, add_comm (length bs)) (earliest-stays (length xs) (length bs) (bs ++ xs) a
      (earliest-append (length bs) bs xs (le_refl _) ∙ e))

  -- One byte more: the refusal that was there, else the one that this byte decides.
  pub decide_snoc : (bs : List ℕ) (b : ℕ)
      → decide t (bs ++ b ∷ []) ≡ or_else (decide t bs) (map (λ n. answered n (length (bs ++ b ∷ []))) (t.refusal (bs ++ b ∷ [])))
  unfolding decide
  decide_snoc bs b =
      rw (one_more, earliest-append (length bs) bs (b ∷ []) (le_refl _), take_all (suc (length bs)) (bs ++ b ∷ []) (omega (arith, one_more bs b)))

  -- What `decide` says, in words: the refusal of the earliest deciding byte, at its place; or none if no byte decides one.
  earliest_none : (d : ℕ) (bs : List ℕ) → earliest t d bs ≡ none → (e : ℕ) → 0 < e → e ≤ d → t.refusal (take e bs) ≡ none
  earliest_none zero bs h e l u = absurd (omega arith)
  earliest_none (suc d) bs h e l u = go (earliest t d bs) refl (t.refusal (take (suc d) bs)) refl (earliest_none d bs) (dec_le e d)
    where
      go : (r : Option Answer) → earliest t d bs ≡ r → (s : Option ℕ) → t.refusal (take (suc d) bs) ≡ s
          → (earliest t d bs ≡ none → (f : ℕ) → 0 < f → f ≤ d → t.refusal (take f bs) ≡ none) → Dec (e ≤ d) → t.refusal (take e bs) ≡ none
      go (some a) p s q ih v = cc
      go none p (some n) q ih v = cc
      go none p none q ih (yes v) = ih p e l v
      go none p none q ih (no v) =
          let here : e ≡ suc d = omega arith in
          rw here q

  none_earliest : (d : ℕ) (bs : List ℕ) → ((e : ℕ) → 0 < e → e ≤ d → t.refusal (take e bs) ≡ none) → earliest t d bs ≡ none
  none_earliest zero bs f = refl
  none_earliest (suc d) bs f = rw (none_earliest d bs (λ e l u. f e l (omega arith)), f (suc d) (omega arith) (le_refl _))

  earliest_some : (d : ℕ) (bs : List ℕ) (n e : ℕ) → d ≤ length bs → earliest t d bs ≡ some (answered n e) → Earliest t bs n e
  earliest_some zero bs n e u h = let z : ◌≡◌ {A = ℕ} 0 1 = cc in absurd (omega arith)
  earliest_some (suc d) bs n e u h = go (earliest t d bs) refl (t.refusal (take (suc d) bs)) refl (earliest_some d bs n e (omega arith))
    where
      go : (r : Option Answer) → earliest t d bs ≡ r → (s : Option ℕ) → t.refusal (take (suc d) bs) ≡ s
          → (earliest t d bs ≡ some (answered n e) → Earliest t bs n e) → Earliest t bs n e
      go (some a) p s q ih = ih (p ∙ (rw p at h))
      go none p none q ih = let z : ◌≡◌ {A = ℕ} 0 1 = cc in absurd (omega arith)
      go none p (some m) q ih =
          let both : answered m (suc d) ≡ answered n e = some-injective _ _ (rw (p, q) at h) in
          let same : m ≡ n = ap (λ a. a.number) both in
          let here : suc d ≡ e = ap (λ a. a.place) both in
          record {
            low = omega arith;
            high = omega arith;
            decides = rw (← here, ← same) q;
            none_before = λ f l v. earliest_none d bs p f l (omega arith);
          }

  pub decide_some : (bs : List ℕ) (n e : ℕ) → decide t bs ≡ some (answered n e) ↔ Earliest t bs n e
  unfolding decide
  decide_some bs n e = (earliest_some (length bs) bs n e (le_refl _), λ w. back e w)
    where
      back : (f : ℕ) → Earliest t bs n f → earliest t (length bs) bs ≡ some (answered n f)
      back zero w = absurd (omega (arith, w.low))
      back (suc f) w =
          let here : earliest t (suc f) bs ≡ some (answered n (suc f)) =
          rw (none_earliest f bs (λ g l u. w.none_before g l (omega arith)), w.decides) in
          let sum : (length bs - suc f) + suc f ≡ length bs = omega (arith, w.high) in
          rw sum at (earliest-stays (length bs - suc f) (suc f) bs (answered n (suc f)) here)
