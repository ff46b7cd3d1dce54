-- Whether a caller's arguments are admitted: opening, look-up, writer and job ask this before anything else, and answer a refusal with its number at
-- place 0.
use Rattle.std.specs.Prelude.{ℕ, Bool, cond, List, ◌≡◌, eqb}
use Rattle.answer.specs.Table.{open_so_far, parameters_not_valid}
use Rattle.params.specs.declared.Params.{Params}
use Rattle.params.specs.declared.Terms.{Terms}
use Rattle.params.specs.Parameters.{valid}

-- The number of the refusal, or 0 where there is none.
unfoldable pub admission : Params → ℕ
admission p = cond (valid p) open_so_far parameters_not_valid

-- The same as a test.
abbrev pub admits : Params → Bool
admits p = eqb (admission p) open_so_far

-- What an opening is asked for, put together.
abbrev pub terms_of : Params → List ℕ → Terms
terms_of p context = record { params = p; context = context }

-- The admission of an opening: only its parameters can be refused.
abbrev pub admission_of : Terms → ℕ
admission_of a = admission a.params

abbrev pub Admitted : Terms → Type 0
Admitted a = admission_of a ≡ open_so_far
