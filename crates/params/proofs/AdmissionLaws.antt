-- Which arguments are admitted: today exactly those with valid parameters.
-- Assumes nothing.
use mathlib.Core.Bool.{Bool, true, false, false≢true}
use mathlib.Core.Path.{◌≡◌, refl, sym, ◌∙◌}
use native.Mathlib.Omega.{arith}
use borrow.Author.Tests.{eq-eqb, ne_eqb}
use Rattle.std.proofs.Common.{ℕ, Ok, Err, Result, IfOk, MatchResult}
use Rattle.answer.specs.Table.{open_so_far, parameters_not_valid}
use Rattle.answer.specs.Refusals.{number_of, number_in}
use Rattle.answer.specs.declared.Refusal.{Refusal}
use Rattle.answer.proofs.RefusalLaws.{never_open}
use Rattle.params.specs.declared.ValidParams.{ValidParams}
use Rattle.params.specs.declared.Params.{Params}
use Rattle.params.specs.Parameters.{Valid, valid, if_valid}
use Rattle.params.specs.Admission.{admission, admits}
use Rattle.params.proofs.ParameterLaws.{valid_facts, valid_test, if_valid_lem, if_not_valid}

-- by the test of validity
pub when_valid : {t : Bool} (p : Params) → t ≡ valid p → t ≡ true → open_so_far ≡ admission p
unfolding admission
when_valid p e f = rw (sym e ∙ f)

pub when_not_valid : {t : Bool} (p : Params) → t ≡ valid p → t ≡ false → parameters_not_valid ≡ admission p
unfolding admission
when_not_valid p e f = rw (sym e ∙ f)

-- admitted exactly if valid, and 10 exactly if not
pub admitted : (p : Params) → Valid p → admission p ≡ open_so_far
admitted p v = sym (when_valid p refl (valid_test p v))

invalid : (p : Params) → (b : Bool) → valid p ≡ b → ¬ Valid p → b ≡ false
invalid p true e n = absurd (n (valid_facts p e))
invalid p false e n = refl

pub refused : (p : Params) → ¬ Valid p → admission p ≡ parameters_not_valid
refused p n = sym (when_not_valid p refl (invalid p (valid p) refl n))

pub admitted-valid : (p : Params) → admission p ≡ open_so_far → Valid p
admitted-valid p e = by (valid p) refl
  where
    by : (b : Bool) → valid p ≡ b → Valid p
    by true t = valid_facts p t
    by false t = let r : parameters_not_valid ≡ admission p = when_not_valid p refl t in absurd (omega arith)

pub refused_not_valid : (p : Params) → admission p ≡ parameters_not_valid → ¬ Valid p
refused_not_valid p e v = let a : admission p ≡ open_so_far = admitted p v in omega arith

-- the test of the number
pub admits_true : (p : Params) → admission p ≡ open_so_far → admits p ≡ true
admits_true p e = eq-eqb (admission p) open_so_far e

pub admits_false : (p : Params) → ¬ (admission p ≡ open_so_far) → admits p ≡ false
admits_false p n = ne_eqb (admission p) open_so_far n

-- admitted or refused
pub admitted_or_not : (p : Params) → Dec (admission p ≡ open_so_far)
admitted_or_not p = by (valid p) refl
  where
    by : (b : Bool) → valid p ≡ b → Dec (admission p ≡ open_so_far)
    by true t = yes (sym (when_valid p refl t))
    by false t = no (λ e. false≢true (sym t ∙ valid_test p (admitted-valid p e)))

-- A number that admitted parameters give, and 0 where they are refused.
pub if_admitted : {F : ValidParams → Type 0} (p : Params) (r : Result ValidParams Refusal) {x y : ℕ}
    → number_in r ≡ admission p → IfOk r (λ v. v.params ≡ p) → MatchResult r F (λ _. y ≡ 0)
    → ((v : ValidParams) → v.params ≡ p → F v → y ≡ x) → y ≡ if_valid p x
if_admitted p (Ok v) number ok f g = g v ok f ∙ if_valid_lem p _ (valid_test p (admitted-valid p (sym number)))
if_admitted p (Err e) number ok f g =
    f ∙ if_not_valid p _ (invalid p (valid p) refl (λ v. never_open e (number ∙ admitted p v)))
