-- A loop over a slice that keeps `x ≡ foldl f x₀ (take i bs)`. Assumes nothing.
use Prim.Native.Nat.{ℕ, ◌+◌, ◌≤◌, ◌<◌}
use mathlib.Core.List.{List, foldl, foldl-append}
use mathlib.Core.Path.{◌≡◌, ◌∙◌}
use native.Mathlib.Numerals.{add-one}
use lib.ListN.{length, take, get_or}
use lib.Seq.{take-suc, take_all}

module _ {X : Type 0} (f : X → ℕ → X) where
  -- one turn
  pub fold_turn : (x₀ x y : X) (bs : List ℕ) (i : ℕ) → i < length bs → x ≡ foldl f x₀ (take i bs)
      → y ≡ f x (get_or bs i 0) → y ≡ foldl f x₀ (take (i + 1) bs)
  fold_turn x₀ x y bs i h p q = q ∙ (rw (add-one, take-suc bs i 0 h, foldl-append, p))

  -- after the last turn
  pub fold_done : (x₀ x : X) (bs : List ℕ) (i : ℕ) → length bs ≤ i → x ≡ foldl f x₀ (take i bs) → x ≡ foldl f x₀ bs
  fold_done x₀ x bs i h p = p ∙ (rw (take_all i bs h))
