-- What the writer of proofs answers and leaves (request 2026-02): its tests in their order, and the file that document 01 builds.
use Rattle.std.specs.Prelude.{ℕ, ◌*◌, ◌^◌, ◌-◌, Bool, true, ◌&&◌, cond, List, [], ◌∷◌, ◌++◌, eqb, leb, ltb, length, drop}
use Rattle.answer.specs.declared.Answer.{Answer}
use Rattle.answer.specs.Table.{answered, open_so_far, not_below_modulus, wrong_coefficient_count, scratch_too_short, output_too_short}
use Rattle.field.specs.Modular.{p as modulus}
use Rattle.params.specs.declared.Params.{Params}
use Rattle.params.specs.Parameters.{file_length}
use Rattle.params.specs.Admission.{admission, admits}
use Rattle.message.specs.Message.{Digest}
use Rattle.buffer.specs.Buffer.{cleared}
use Rattle.built.specs.Built.{built_file}

-- Every coefficient is below the modulus.
unfoldable pub all_below : List ℕ → Bool
all_below [] = true
all_below (c ∷ cs) = ltb c modulus && all_below cs

-- The tests, in their order: of the coefficients f, and of the lengths of the lent numbers, the lent bytes and the output.
unfoldable pub tested : Params → List ℕ → ℕ → ℕ → ℕ → ℕ
tested p f numbers bytes output =
    cond (admits p)
    (cond (eqb (length f) (2 ^ (p.n - p.b)))
    (cond (all_below f)
    (cond (leb (2 * 2 ^ p.n) numbers && leb (64 * 2 ^ p.n) bytes)
    (cond (leb (file_length p) output)
    open_so_far
    output_too_short)
    scratch_too_short)
    not_below_modulus)
    wrong_coefficient_count)
    (admission p)

-- What a call answers, and what it leaves in the output and in the scratch.
pub record Written : Type 0 where
  pub answer : Answer
  pub output : List ℕ
  pub numbers : List ℕ
  pub bytes : List ℕ

-- A refusal has place 0 and touches no buffer.
abbrev pub refused : ℕ → List ℕ → List ℕ → List ℕ → Written
refused number numbers bytes output = record { answer = answered number 0; output = output; numbers = numbers; bytes = bytes }

-- Success answers 0 at L, writes the first L bytes of the output only, and leaves all scratch zero.
abbrev pub succeeded : ℕ → List ℕ → List ℕ → List ℕ → List ℕ → Written
succeeded size file numbers bytes output =
    record {
      answer = answered open_so_far size;
      output = file ++ drop size output;
      numbers = cleared numbers;
      bytes = cleared bytes;
    }

unfoldable pub written : (List ℕ → Digest) → Params → List ℕ → List ℕ → List ℕ → List ℕ → List ℕ → Written
written hash p context f numbers bytes output =
    cond (eqb (tested p f (length numbers) (length bytes) (length output)) open_so_far)
    (succeeded (file_length p) (built_file hash p context f) numbers bytes output)
    (refused (tested p f (length numbers) (length bytes) (length output)) numbers bytes output)
