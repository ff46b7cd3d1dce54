-- What is true of every refusal's number. Assumes nothing.
use mathlib.Core.Path.{◌≡◌}
use native.Mathlib.Omega.{arith}
use Rattle.answer.specs.declared.Refusal.{Refusal}
use Rattle.answer.specs.declared.Refusal.TheVariants as r
use Rattle.answer.specs.Table.{open_so_far}
use Rattle.answer.specs.Refusals.{number_of}

-- No refusal has the number of success.
pub never_open : (r : Refusal) → ¬ (number_of r ≡ open_so_far)
never_open r.ParametersNotValid e = omega arith
never_open r.Closed e = omega arith
never_open r.JobTooShort e = omega arith
never_open r.MessageTooLong e = omega arith
never_open r.InverseOfZero e = omega arith
never_open r.NoSuchOpening e = omega arith
never_open r.CountDiffers e = omega arith
never_open r.ParametersDiffer e = omega arith
never_open r.NotBelowModulus e = omega arith
never_open r.PathMissesRoot e = omega arith
never_open r.NotTheFoldedValue e = omega arith
never_open r.MissesFinalPolynomial e = omega arith
never_open r.TooFewBytes e = omega arith
never_open r.ByteAfterTheEnd e = omega arith
never_open r.WrongCoefficientCount e = omega arith
never_open r.ScratchTooShort e = omega arith
never_open r.OutputTooShort e = omega arith
