-- The answers of the checked calls (document 01, "The field" and "When the reader says no"): 22 where an argument is not below p, 15 for the
-- inverse of 0, else 0; the place is always 0, and the value beside a refusal is 0.
use Rattle.std.specs.Prelude.{cond, ℕ, ltb, eqb, Ok, Err}
use Rattle.std.specs.Prelude as prelude
use Rattle.answer.specs.Table.{answered, open_so_far, not_below_modulus, inverse_of_zero}
use Rattle.answer.specs.declared.Refusal.{Refusal}
use Rattle.answer.specs.Refusals.{number_of}
use Rattle.felt.specs.declared.FieldAnswer.{FieldAnswer}
use Rattle.field.specs.Modular.{p, add_mod, sub_mod, mul_mod, neg_mod, pow_mod, inv_mod}

abbrev pub refusal : ℕ → FieldAnswer
refusal number = record { answer = answered number 0; value = record { value = 0 } }

abbrev pub success : ℕ → FieldAnswer
success v = record { answer = answered open_so_far 0; value = record { value = v } }

-- the answer that tells of a value or a refusal
abbrev pub told : prelude.Result ℕ Refusal → FieldAnswer
told (Ok v) = success v
told (Err r) = refusal (number_of r)

-- the answer where a is a field number, else 22
unfoldable pub checked : ℕ → FieldAnswer → FieldAnswer
checked a answer = cond (ltb a p) answer (refusal not_below_modulus)

unfoldable pub sum_answer : ℕ → ℕ → FieldAnswer
sum_answer a b = checked a (checked b (success (add_mod a b)))

unfoldable pub difference_answer : ℕ → ℕ → FieldAnswer
difference_answer a b = checked a (checked b (success (sub_mod a b)))

unfoldable pub product_answer : ℕ → ℕ → FieldAnswer
product_answer a b = checked a (checked b (success (mul_mod a b)))

unfoldable pub negation_answer : ℕ → FieldAnswer
negation_answer a = checked a (success (neg_mod a))

-- the exponent is any 32-bit number
unfoldable pub power_answer : ℕ → ℕ → FieldAnswer
power_answer a e = checked a (success (pow_mod a e))

unfoldable pub inverse_answer : ℕ → FieldAnswer
inverse_answer a = checked a (cond (eqb a 0) (refusal inverse_of_zero) (success (inv_mod a)))
