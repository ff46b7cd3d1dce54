-- Lists of a function's values: their length and elements, when two are the same, and one value more. Assumes nothing.
use Prim.Native.Nat.{ℕ, zero, suc, ◌<◌}
use mathlib.Core.List.{List, [], ◌∷◌, ◌++◌}
use mathlib.Core.Path.{◌≡◌, refl, ap, ap₂}
use native.Mathlib.Omega.{arith}
use lib.ListN.{length, get_or}
use Rattle.message.proofs.Bytes.{Sized}
use Rattle.message.specs.Lists.{tabulate}

module _ {A : Type 0} where
  pub tabulate-length : (n : ℕ) (g : ℕ → A) → length (tabulate n g) ≡ n
  unfolding tabulate
  tabulate-length zero g = refl
  tabulate-length (suc n) g = ap suc (tabulate-length n (λ i. g (suc i)))

  pub tabulate_at : (n : ℕ) (g : ℕ → A) (i : ℕ) (d : A) → i < n → get_or (tabulate n g) i d ≡ g i
  unfolding tabulate
  tabulate_at zero g i d h = absurd (omega arith)
  tabulate_at (suc n) g zero d h = refl
  tabulate_at (suc n) g (suc i) d h = tabulate_at n (λ k. g (suc k)) i d (omega arith)

  pub tabulate-same : (n : ℕ) (g h : ℕ → A) → ((i : ℕ) → i < n → g i ≡ h i) → tabulate n g ≡ tabulate n h
  unfolding tabulate
  tabulate-same zero g h e = refl
  tabulate-same (suc n) g h e =
      ap₂ (λ x xs. x ∷ xs) (e 0 (omega arith)) (tabulate-same n (λ i. g (suc i)) (λ i. h (suc i)) (λ i l. e (suc i) (omega arith)))

  pub tabulate_snoc : (n : ℕ) (g : ℕ → A) → tabulate (suc n) g ≡ tabulate n g ++ (g n ∷ [])
  unfolding tabulate
  tabulate_snoc zero g = refl
  tabulate_snoc (suc n) g = ap (λ xs. g 0 ∷ xs) (tabulate_snoc n (λ i. g (suc i)))

-- Blocks of one size.
pub tabulate_sized : (s n : ℕ) (g : ℕ → List ℕ) → ((i : ℕ) → length (g i) ≡ s) → Sized s (tabulate n g)
unfolding tabulate
tabulate_sized s zero g e = Sized.none
tabulate_sized s (suc n) g e = Sized.more (e 0) (tabulate_sized s n (λ i. g (suc i)) (λ i. e (suc i)))
