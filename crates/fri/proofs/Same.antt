-- Byte strings that are compared. Assumes nothing.
use Prim.Native.Nat.{ℕ}
use mathlib.Core.Bool.{Bool, true, false, ◌&&◌, false≢true}
use mathlib.Core.List.{List, [], ◌∷◌}
use mathlib.Core.Path.{◌≡◌, refl, ap₂}
use lib.Dec.{eqb}
use borrow.Author.Tests.{eq-eqb, eqb-true}
use Rattle.fri.specs.Judge.{same_bytes}

-- A byte string is the same as itself, and strings that are the same are equal.
pub same_self : (xs : List ℕ) → same_bytes xs xs ≡ true
unfolding same_bytes
same_self [] = refl
same_self (x ∷ xs) = rw (eq-eqb x x refl) (same_self xs)

pub same-equal : (xs ys : List ℕ) → same_bytes xs ys ≡ true → xs ≡ ys
unfolding same_bytes
same-equal [] [] e = refl
same-equal [] (y ∷ ys) e = absurd (false≢true e)
same-equal (x ∷ xs) [] e = absurd (false≢true e)
same-equal (x ∷ xs) (y ∷ ys) e = by (same-equal xs ys) (eqb x y) refl e
  where
    by : (same_bytes xs ys ≡ true → xs ≡ ys) → (b : Bool) → eqb x y ≡ b → (b && same_bytes xs ys) ≡ true → x ∷ xs ≡ y ∷ ys
    by ih true t f = ap₂ (λ u v. u ∷ v) (eqb-true x y t) (ih f)
    by ih false t f = absurd (false≢true f)
