-- Every answer is a number and a place (document 01, "When the reader says no"). Here each number of the table has its name; when it is given and
-- at which place is said by the definitions that use the name.
use Rattle.std.specs.Prelude.{ℕ, Bool, ◌||◌, List, [], ◌∷◌, eqb}
use Rattle.answer.specs.declared.Answer.{Answer}

-- number, place
abbrev pub answered : ℕ → ℕ → Answer
answered number place = record { number = number; place = place }

-- a reader that is open with no fault; also a call that succeeds
abbrev pub open_so_far : ℕ
open_so_far = 0

abbrev pub accepted : ℕ
accepted = 1

abbrev pub parameters_not_valid : ℕ
parameters_not_valid = 10

-- any call after the end call, or after 10
abbrev pub closed : ℕ
closed = 11

-- the program only
abbrev pub job_too_short : ℕ
job_too_short = 12

-- the hash only
abbrev pub message_too_long : ℕ
message_too_long = 14

-- the field only
abbrev pub inverse_of_zero : ℕ
inverse_of_zero = 15

-- the look-up only
abbrev pub no_such_opening : ℕ
no_such_opening = 16

abbrev pub count_differs : ℕ
count_differs = 20

abbrev pub parameters_differ : ℕ
parameters_differ = 21

abbrev pub not_below_modulus : ℕ
not_below_modulus = 22

abbrev pub path_misses_root : ℕ
path_misses_root = 23

abbrev pub not_the_folded_value : ℕ
not_the_folded_value = 24

abbrev pub misses_final_polynomial : ℕ
misses_final_polynomial = 25

-- the end call only
abbrev pub too_few_bytes : ℕ
too_few_bytes = 26

abbrev pub byte_after_the_end : ℕ
byte_after_the_end = 27

-- the writer only, as are the two below
abbrev pub wrong_coefficient_count : ℕ
wrong_coefficient_count = 30

abbrev pub scratch_too_short : ℕ
scratch_too_short = 31

abbrev pub output_too_short : ℕ
output_too_short = 32

-- the faults: what a byte of a file can get
abbrev pub is_fault : ℕ → Bool
is_fault number =
    eqb number count_differs
    || eqb number parameters_differ
    || eqb number not_below_modulus
    || eqb number path_misses_root
    || eqb number not_the_folded_value
    || eqb number misses_final_polynomial
    || eqb number byte_after_the_end

-- all of them, ascending
abbrev pub table : List ℕ
table =
    open_so_far ∷ accepted ∷ parameters_not_valid ∷ closed ∷ job_too_short ∷ message_too_long ∷ inverse_of_zero ∷ no_such_opening
    ∷ count_differs ∷ parameters_differ ∷ not_below_modulus ∷ path_misses_root ∷ not_the_folded_value ∷ misses_final_polynomial
    ∷ too_few_bytes ∷ byte_after_the_end ∷ wrong_coefficient_count ∷ scratch_too_short ∷ output_too_short ∷ []
