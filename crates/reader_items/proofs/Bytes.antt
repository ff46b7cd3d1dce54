-- Laws on byte strings that are compared, and on the value that an index names.
-- Assumes nothing.
use Prim.Native.Nat.{ℕ, ◌/◌, ◌≤◌, ◌<◌}
use native.Mathlib.Omega.{arith}
use mathlib.Core.Path.{◌≡◌, refl, sym, ◌∙◌, ap}
use mathlib.Core.Bool.{Bool, ◌&&◌}
use mathlib.Core.List.{List, [], ◌∷◌}
use lib.Dec.{eqb}
use lib.ListN.{length, take, get_or, get_or-eq_default}
use lib.Seq.{length-take-le, get_or-take}
use Rattle.std.specs.Cmp.Lexicographic.{pointwise}
use Rattle.std.proofs.lemmas.Bool.Decides.{nat_tests}
use Rattle.params.specs.declared.Params.{Params}
use Rattle.params.specs.Parameters.{header_size, header, values_per_leaf, leaf_count}
use Rattle.fri.specs.Judge.{same_bytes, value_at}

-- `==` on slices of bytes is the judgement's test, whichever side each stands on.
pub same_by_eq : (a b : List ℕ) → pointwise eqb a b ≡ same_bytes a b
unfolding same_bytes
same_by_eq [] [] = refl
same_by_eq [] (y ∷ ys) = refl
same_by_eq (x ∷ xs) [] = refl
same_by_eq (x ∷ xs) (y ∷ ys) = ap (λ (t : Bool). eqb x y && t) (same_by_eq xs ys)

flipped : (x y : ℕ) → eqb x y ≡ eqb y x
flipped x y = grind (arith, nat_tests)

pub same_by_flipped : (a b : List ℕ) → pointwise eqb b a ≡ same_bytes a b
unfolding same_bytes
same_by_flipped [] [] = refl
same_by_flipped [] (y ∷ ys) = refl
same_by_flipped (x ∷ xs) [] = refl
same_by_flipped (x ∷ xs) (y ∷ ys) = ap (λ (t : Bool). t && pointwise eqb ys xs) (flipped y x) ∙ ap (λ (t : Bool). eqb x y && t) (same_by_flipped xs ys)

pub begins_with_header : {h : List ℕ} {t : Bool} (item : List ℕ) (p : Params) → h ≡ header p → t ≡ pointwise eqb h (take (length h) item)
    → t ≡ same_bytes (take header_size item) (header p)
begins_with_header item p e told = told ∙ rw e (same_by_flipped (take header_size item) (header p))

-- Of a leaf's values in an array, the one that an index names, as code works it out.
pub names_value : {entry : ℕ} (p : Params) (j m : ℕ) (values : List ℕ) → entry ≡ m / leaf_count p j → entry < values_per_leaf p
    → get_or values entry 0 ≡ value_at p j m (take (values_per_leaf p) values)
unfolding value_at
names_value {entry} p j m values e h =
    sym (ap (λ (i : ℕ). get_or (take (values_per_leaf p) values) i 0) (sym e) ∙ get_or-take (values_per_leaf p) values entry 0 h)

pub names_none : {entry : ℕ} (p : Params) (j m : ℕ) (values : List ℕ) → entry ≡ m / leaf_count p j → values_per_leaf p ≤ entry → length values ≡ 4
    → 0 ≡ value_at p j m (take (values_per_leaf p) values)
unfolding value_at
names_none {entry} p j m values e h long =
    sym (get_or-eq_default (take (values_per_leaf p) values) 0 {n = m / leaf_count p j}
    (omega (arith, length-take-le (values_per_leaf p) values (omega arith))))

-- The leaf's first two values in an array.
pub first_of : (values : List ℕ) → get_or (take 2 values) 0 0 ≡ get_or values 0 0
first_of values = get_or-take 2 values 0 0 (omega arith)

pub second_of : (values : List ℕ) → get_or (take 2 values) 1 0 ≡ get_or values 1 0
second_of values = get_or-take 2 values 1 0 (omega arith)
