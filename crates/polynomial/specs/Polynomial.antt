-- A polynomial in lent numbers: its values in a layer, and its fold in place.
use Rattle.std.specs.Prelude.{ℕ, ◌*◌, ◌^◌, ◌-◌, ◌/◌, ◌%◌, Bool, ◌&&◌, cond, List, ◌++◌, eqb, leb, length, take, drop}
use Rattle.domain.specs.Domain.{point}
use Rattle.fold.specs.Poly.{eval, fold}
use Rattle.message.specs.Lists.{tabulate}

-- The number of points of layer j in the domain of 2^n points.
unfoldable pub layer_size : ℕ → ℕ → ℕ
layer_size n j = 2 ^ (n - j)

-- A layer: the polynomial's value at each of its points.
unfoldable pub values : ℕ → ℕ → List ℕ → List ℕ
values n j f = tabulate (layer_size n j) (λ i. eval f (point n j i))

-- A room for layer j has twice as many numbers as the layer has points. Its first half has the polynomial in front.
unfoldable pub is_room : ℕ → ℕ → ℕ → ℕ → Bool
is_room n j count size = leb j n && (leb n 30 && (leb count (layer_size n j) && eqb size (2 * layer_size n j)))

-- The room with the values of its first count numbers in the second half; what is no room stays.
unfoldable pub evaluated : ℕ → ℕ → ℕ → List ℕ → List ℕ
evaluated n j count room =
    cond (is_room n j count (length room)) (take (layer_size n j) room ++ values n j (take count room)) room

-- An even number of coefficients with their fold in front; an odd number stays.
unfoldable pub folded_in_place : ℕ → List ℕ → List ℕ
folded_in_place β f = cond (eqb (length f % 2) 0) (fold β f ++ drop (length f / 2) f) f
