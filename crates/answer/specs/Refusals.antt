-- The refusals of the code by their numbers in the table.
use Rattle.std.specs.Prelude.{ℕ, Ok, Err}
use Rattle.std.specs.Prelude as prelude
use Rattle.answer.specs.Table.{open_so_far, parameters_not_valid, closed, job_too_short, message_too_long, inverse_of_zero, no_such_opening, count_differs, parameters_differ, not_below_modulus, path_misses_root, not_the_folded_value, misses_final_polynomial, too_few_bytes, byte_after_the_end, wrong_coefficient_count, scratch_too_short, output_too_short}
use Rattle.answer.specs.declared.Refusal.{Refusal}
use Rattle.answer.specs.declared.Refusal.TheVariants as r

abbrev pub number_of : Refusal → ℕ
number_of r.ParametersNotValid = parameters_not_valid
number_of r.Closed = closed
number_of r.JobTooShort = job_too_short
number_of r.MessageTooLong = message_too_long
number_of r.InverseOfZero = inverse_of_zero
number_of r.NoSuchOpening = no_such_opening
number_of r.CountDiffers = count_differs
number_of r.ParametersDiffer = parameters_differ
number_of r.NotBelowModulus = not_below_modulus
number_of r.PathMissesRoot = path_misses_root
number_of r.NotTheFoldedValue = not_the_folded_value
number_of r.MissesFinalPolynomial = misses_final_polynomial
number_of r.TooFewBytes = too_few_bytes
number_of r.ByteAfterTheEnd = byte_after_the_end
number_of r.WrongCoefficientCount = wrong_coefficient_count
number_of r.ScratchTooShort = scratch_too_short
number_of r.OutputTooShort = output_too_short

-- the number of what may be refused: that of its refusal, or 0 where there is none
abbrev pub number_in : {A : Type 0} → prelude.Result A Refusal → ℕ
number_in (Ok _) = open_so_far
number_in (Err r) = number_of r
