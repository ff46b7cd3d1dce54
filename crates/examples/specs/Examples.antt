-- Document 01's worked examples marked M, each a row: what the definitions give, and what the document says. Every row is a list of numbers, so
-- that one table holds them all; a Bool is 1 or 0, an answer its number and its place.
use Rattle.std.specs.Prelude.{ℕ, ◌+◌, ◌-◌, Bool, cond, List, [], ◌∷◌, ◌≡◌, replicate}
use Rattle.answer.specs.declared.Answer.{Answer}
use Rattle.field.specs.Modular.{mul_mod, inv_mod, subgroup_generator}
use Rattle.sha256.specs.Sha256.{sha256}
use Rattle.params.specs.declared.Params.{Params}
use Rattle.params.specs.Parameters.{valid, final_count, file_length, height, leaf_count}
use Rattle.params.specs.Admission.{terms_of}
use Rattle.transcript.specs.Transcript.{challenge}
use Rattle.fold.specs.Poly.{eval, fold}
use Rattle.fold.specs.Fold.{next}
use Rattle.fri.specs.Process.{run, done}
use Rattle.fri.specs.Encoding.{Opening, Proof}
use Rattle.fri.specs.Judge.{number, end_answer, verdict}
use Rattle.fri.specs.Accepted.{leaf_at, next_value}

pub record Example : Type 0 where
  pub gives : List ℕ
  pub says : List ℕ

infix 5 ◌is◌
abbrev pub ◌is◌ : List ℕ → List ℕ → Example
gives is says = record { gives = gives; says = says }

abbrev pub one : ℕ → List ℕ
one x = x ∷ []

abbrev pub bit : Bool → List ℕ
bit b = cond b 1 0 ∷ []

abbrev pub shown : Answer → List ℕ
shown a = a.number ∷ a.place ∷ []

abbrev pub parameters : ℕ → ℕ → ℕ → ℕ → Params
parameters n b k q = record { n = n; b = b; k = k; q = q }

-- n = 4, b = 1, k = 2, a hash that draws leaf 6, and a proof whose leaf in layer 1 has the values 1 and 2. The rows ask for query 0's leaf in
-- layer j, and for the value that its index names in layer 1.
abbrev pub small : Params
small = parameters 4 1 2 1

abbrev pub draws_six : List ℕ → List ℕ
draws_six message = replicate 32 6

abbrev pub holding : List ℕ → Opening
holding values = record { values = values; siblings = [] }

abbrev pub two_layers : Proof
two_layers = record { roots = [] ∷ [] ∷ []; final = []; queries = (holding [] ∷ holding (1 ∷ 2 ∷ []) ∷ []) ∷ [] }

abbrev pub leaf : ℕ → ℕ
leaf j = leaf_at draws_six small [] two_layers 0 j

abbrev pub named : ℕ
named = next_value draws_six small [] two_layers 0 0

-- The opening's verdict on no bytes, with a context of zeros.
abbrev pub opened : Params → Answer
opened p = verdict sha256 (terms_of p (replicate 32 0)) []

-- A hash whose every byte is ff.
abbrev pub all_ones : List ℕ → List ℕ
all_ones message = replicate 32 255

-- The answer to four bytes that are read as one number of a proof.
abbrev pub as_number : List ℕ → Answer
as_number four = end_answer (run (number (λ v. done)) four 0) 4

-- The polynomial of the fold's examples.
abbrev pub f : List ℕ
f = 2 ∷ 3 ∷ 0 ∷ 1 ∷ []

unfoldable pub examples : List Example
examples =
    -- coefficients 2, 3, 0, 1 with β = 7 give 23, 7
    (fold 7 f is 23 ∷ 7 ∷ [])
    -- at x = 3 and at −3 the values are 38 and 3221225439; next is 86, the fold's value at 9
    ∷ (eval f 3 ∷ eval f 3221225470 ∷ [] is 38 ∷ 3221225439 ∷ [])
    ∷ (next 3 7 38 3221225439 ∷ eval (fold 7 f) 9 ∷ [] is 86 ∷ 86 ∷ [])
    -- β = x is an ordinary case
    ∷ (one (next 3 3 38 3221225439) is one 38)
    -- entries 30, 29, 28 and 1 of the table of subgroup generators
    ∷ (one (subgroup_generator 30) is one 125)
    ∷ (one (subgroup_generator 29) is one 15625)
    ∷ (one (subgroup_generator 28) is one 244140625)
    ∷ (one (subgroup_generator 1) is one 3221225472)
    -- the inverse of 2; (p − 1)² = 1; 390625²
    ∷ (one (inv_mod 2) is one 1610612737)
    ∷ (one (mul_mod 3221225472 3221225472) is one 1)
    ∷ (one (mul_mod 390625 390625) is one 1190293394)
    -- lengths
    ∷ (one (file_length (parameters 4 2 1 2)) is one 260)
    ∷ (final_count (parameters 2 1 1 1) ∷ file_length (parameters 2 1 1 1) ∷ [] is 1 ∷ 88 ∷ [])
    ∷ (one (file_length (parameters 20 2 12 64)) is one 338572)
    -- 20, 8, 5, 1 is refused with 10; 20, 8, 6, 1 is allowed; no query and 65 queries are refused with 10
    ∷ (shown (opened (parameters 20 8 5 1)) is 10 ∷ 0 ∷ [])
    ∷ (bit (valid (parameters 20 8 6 1)) is one 1)
    ∷ (shown (opened (parameters 20 8 6 0)) is 10 ∷ 0 ∷ [])
    ∷ (shown (opened (parameters 20 8 6 65)) is 10 ∷ 0 ∷ [])
    -- n = 4, b = 1, k = 2, m = 6: leaf 6, with the values at 6 and 14; then leaf 2, where index 6 names the second value; final index 2; paths 3 and 2 long
    ∷ (leaf 0 ∷ (leaf 0 + leaf_count small 0) ∷ [] is 6 ∷ 14 ∷ [])
    ∷ (leaf 1 ∷ named ∷ [] is 2 ∷ 2 ∷ [])
    ∷ (one (leaf (small.k - 1)) is one 2)
    ∷ (height small 0 ∷ height small 1 ∷ [] is 3 ∷ 2 ∷ [])
    -- eight bytes ff draw the challenge 1789569708
    ∷ (one (challenge all_ones []) is one 1789569708)
    -- in a proof 00 00 00 c0 is a number, and 01 00 00 c0 gets 22 at its 4th byte
    ∷ (shown (as_number (0 ∷ 0 ∷ 0 ∷ 192 ∷ [])) is 1 ∷ 4 ∷ [])
    ∷ (shown (as_number (1 ∷ 0 ∷ 0 ∷ 192 ∷ [])) is 22 ∷ 4 ∷ [])
    ∷ []

-- Every row holds.
pub data Hold : List Example → Type 0 where
  empty : Hold []
  more : {e : Example} {es : List Example} → e.gives ≡ e.says → Hold es → Hold (e ∷ es)
