-- The writer's tests, and the final coefficients as the front of an array. Assumes nothing.
use Prim.Native.Nat.{ℕ, ◌*◌, ◌^◌, ◌-◌, ◌≤◌, ◌<◌}
use mathlib.Core.Bool.{Bool, true, ◌&&◌, cond}
use mathlib.Core.List.{List, [], ◌∷◌}
use mathlib.Core.Path.{◌≡◌, refl, ap, ◌∙◌}
use native.Mathlib.Omega.{arith}
use borrow.Author.Tests.{lt-leb, le-leb, eq-eqb}
use lib.Dec.{eqb, leb, ltb}
use Rattle.std.specs.List.{list_all}
use lib.ListN.{length, take}
use Rattle.params.specs.declared.Params.{Params}
use Rattle.params.specs.Parameters.{file_length}
use Rattle.params.specs.Admission.{admission}
use Rattle.buffer.specs.Buffer.{put}
use Rattle.buffer.proofs.BufferLaws.{put-fits}
use Rattle.message.proofs.Placed.{take-there}
use Rattle.field.specs.Modular.{p as modulus}
use Rattle.polynomial.specs.Polynomial.{layer_size}
use Rattle.writer.specs.Writer.{all_below, tested}

-- The sizes at layer 0.
pub first_count : {r : ℕ} (p q : Params) → q ≡ p → r ≡ 2 ^ (q.n - q.b - 0) → r ≡ 2 ^ (p.n - p.b)
first_count p q s e = e ∙ ap (λ d. 2 ^ d) (omega arith) ∙ ap (λ (x : Params). 2 ^ (x.n - x.b)) s

pub first_size : {r : ℕ} (p q : Params) → q ≡ p → r ≡ layer_size q.n 0 → r ≡ 2 ^ p.n
unfolding layer_size
first_size p q s e = e ∙ ap (λ d. 2 ^ d) (omega arith) ∙ ap (λ (x : Params). 2 ^ x.n) s

-- The test of the coefficients, as a chain has it.
pub below_all : (l : List ℕ) → list_all (λ c. ltb c modulus) l ≡ all_below l
unfolding all_below
below_all [] = refl
below_all (c ∷ l) = ap (λ t. ltb c modulus && t) (below_all l)

-- Numbers, put to the front of an array.
pub array_front : {r : List ℕ} (d s : List ℕ) → length s ≤ length d → r ≡ put d 0 s → take (length s) r ≡ s
array_front d s h e = ap (take (length s)) (e ∙ put-fits d 0 s (omega arith)) ∙ take-there d s (length s) refl h

-- The tests in their order, as one function of what they find.
unfoldable pub tests : ℕ → Bool → Bool → Bool → Bool → Bool → ℕ
tests admitted counted below numbers bytes output =
    cond (eqb admitted 0) (cond counted (cond below (cond (numbers && bytes) (cond output 0 32) 31) 22) 30) admitted

module _ (p : Params) (f : List ℕ) (numbers bytes output : ℕ) where
  abbrev number : ℕ
  number = tested p f numbers bytes output

  pub in_order : number
      ≡ tests (admission p) (eqb (length f) (2 ^ (p.n - p.b))) (all_below f) (leb (2 * 2 ^ p.n) numbers) (leb (64 * 2 ^ p.n) bytes) (leb (file_length p) output)
  unfolding tested tests
  in_order = refl

  module _ (v : admission p ≡ 0) (count : length f ≡ 2 ^ (p.n - p.b)) (below : all_below f ≡ true) where
    pub few-numbers : numbers < 2 * 2 ^ p.n → 31 ≡ number
    unfolding tests
    few-numbers h = rw (in_order, v, eq-eqb _ _ count, below, lt-leb _ _ h)

    module _ (enough : 2 * 2 ^ p.n ≤ numbers) where
      pub few_bytes : bytes < 64 * 2 ^ p.n → 31 ≡ number
      unfolding tests
      few_bytes h = rw (in_order, v, eq-eqb _ _ count, below, le-leb _ _ enough, lt-leb _ _ h)

      pub short-output : 64 * 2 ^ p.n ≤ bytes → output < file_length p → 32 ≡ number
      unfolding tests
      short-output room h = rw (in_order, v, eq-eqb _ _ count, below, le-leb _ _ enough, le-leb _ _ room, lt-leb _ _ h)

      pub none_fails : 64 * 2 ^ p.n ≤ bytes → file_length p ≤ output → 0 ≡ number
      unfolding tests
      none_fails room h = rw (in_order, v, eq-eqb _ _ count, below, le-leb _ _ enough, le-leb _ _ room, le-leb _ _ h)
