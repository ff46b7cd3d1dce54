-- Definitions of the private contracts.
use Rattle.std.specs.Prelude.{ℕ, cond, ltb, Ok, Err}
use Rattle.std.specs.Prelude as prelude
use Rattle.answer.specs.declared.Refusal.{Refusal}
use Rattle.answer.specs.declared.Refusal.TheVariants.{NotBelowModulus}
use Rattle.field.specs.Modular.{p}

-- A number, and two, where they are field numbers.
abbrev pub judged : ℕ → prelude.Result ℕ Refusal
judged a = cond (ltb a p) (Ok a) (Err NotBelowModulus)

abbrev pub judged_both : ℕ → ℕ → prelude.Result (ℕ × ℕ) Refusal
judged_both a b = cond (ltb a p) (cond (ltb b p) (Ok (a, b)) (Err NotBelowModulus)) (Err NotBelowModulus)
