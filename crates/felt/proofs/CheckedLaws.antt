-- What the checked calls' definitions answer, by the test that decides.
-- Assumes nothing.
use Rattle.std.proofs.Common.{◌≡◌, ℕ, Bool, true, false, cond, ltb, refl, ap, subst, Result, Ok, Err, IsOkAnd, MatchResult}
use Rattle.answer.specs.declared.Refusal.{Refusal}
use Rattle.answer.specs.declared.Refusal.TheVariants.{NotBelowModulus}
use Rattle.answer.specs.Table.{not_below_modulus}
use Rattle.field.specs.Modular.{p}
use Rattle.felt.specs.declared.FieldAnswer.{FieldAnswer}
use Rattle.felt.specs.Checked.{checked, success, refusal, told}
use Rattle.felt.specs.Private.{judged, judged_both}

-- what `map` makes of a value
pub mapped : {Q : ℕ → Type 0} {v : ℕ} (m : Result ℕ Refusal) → IsOkAnd m Q → ((y : ℕ) → Q y → y ≡ v) → told m ≡ success v
mapped (Ok y) q f = ap success (f y q)
mapped (Err r) q f = absurd q

-- An outcome made from a number that is judged: what it is of a field number, and 22 else.
pub one : {G : ℕ → Type 0} (a : ℕ) {w : FieldAnswer} {r : Result ℕ Refusal} (m : Result ℕ Refusal) → r ≡ judged a → MatchResult r G (λ e. m ≡ Err e)
    → ((v : ℕ) → v ≡ a → G v → told m ≡ w) → told m ≡ checked a w
unfolding checked
one {G} a {w} {r} m e f g = by (ltb a p) (subst (λ s. MatchResult s G (λ e. m ≡ Err e)) e f)
  where
    by : (t : Bool) → MatchResult (cond t (Ok a) (Err NotBelowModulus)) G (λ e. m ≡ Err e) → told m ≡ cond t w (refusal not_below_modulus)
    by true h = g a refl h
    by false h = ap told h

-- and from two
pub two : {G : ℕ × ℕ → Type 0} (a b : ℕ) {w : FieldAnswer} {r : Result (ℕ × ℕ) Refusal} (m : Result ℕ Refusal) → r ≡ judged_both a b → MatchResult r G (λ e. m ≡ Err e)
    → ((v : ℕ × ℕ) → v.0 ≡ a → v.1 ≡ b → G v → told m ≡ w) → told m ≡ checked a (checked b w)
unfolding checked
two {G} a b {w} {r} m e f g = by (ltb a p) (ltb b p) (subst (λ s. MatchResult s G (λ e. m ≡ Err e)) e f)
  where
    by : (t u : Bool) → MatchResult (cond t (cond u (Ok (a, b)) (Err NotBelowModulus)) (Err NotBelowModulus)) G (λ e. m ≡ Err e) → told m ≡ cond t (cond u w (refusal not_below_modulus)) (refusal not_below_modulus)
    by true true h = g (a, b) refl refl h
    by true false h = ap told h
    by false u h = ap told h
