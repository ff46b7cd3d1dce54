-- Faults: which numbers are due at which places; which of two goes before the other; the first. Assumes nothing.
use Prim.Native.Nat.{ℕ, zero, suc, ◌<◌}
use mathlib.Core.Path.{◌≡◌, refl, subst₂, sym}
use native.Mathlib.Omega.{arith}
use Rattle.answer.specs.Table.{not_below_modulus, not_the_folded_value, path_misses_root, misses_final_polynomial}

-- Numbers and places.
abbrev pub Faults : Type 1
Faults = ℕ → ℕ → Type 0

-- No fault; one, if P; those of one or the other; those of the first n.
abbrev pub None : Faults
None c d = ⊥

pub record One (P : Type 0) (number place c d : ℕ) : Type 0 where
  pub due : P
  pub by_number : c ≡ number
  pub by_place : d ≡ place

pub data Either (F G : Faults) (c d : ℕ) : Type 0 where
  left : F c d → Either F G c d
  right : G c d → Either F G c d

pub cases : {F G : Faults} {c d : ℕ} {R : Type 0} → (F c d → R) → (G c d → R) → Either F G c d → R
cases f g (left h) = f h
cases f g (right h) = g h

pub record Some (F : ℕ → Faults) (n c d : ℕ) : Type 0 where
  pub index : ℕ
  pub below : index < n
  pub fault : F index c d

pub one : {P : Type 0} {c d : ℕ} → P → One P c d c d
one h = record { due = h; by_number = refl; by_place = refl }

pub from_one : {P : Type 0} {n e c d : ℕ} (F : Faults) → (P → F n e) → One P n e c d → F c d
from_one F f h = subst₂ F (sym h.by_number) (sym h.by_place) (f h.due)

-- The first of n + 1, and the others.
pub some_split : {F : ℕ → Faults} {n c d : ℕ} → Some F (suc n) c d → Either (F 0) (Some (λ t. F (suc t)) n) c d
some_split {F} {n} {c} {d} h = by h.index h.below h.fault
  where
    by : (t : ℕ) → t < suc n → F t c d → Either (F 0) (Some (λ u. F (suc u)) n) c d
    by zero l f = left f
    by (suc t) l f = right (record { index = t; below = omega arith; fault = f })

pub some_join : {F : ℕ → Faults} {n c d : ℕ} → Either (F 0) (Some (λ t. F (suc t)) n) c d → Some F (suc n) c d
some_join (left f) = record { index = 0; below = omega arith; fault = f }
some_join (right h) = record { index = suc h.index; below = omega (arith, h.below); fault = h.fault }

-- The fault c at d is the fault c' at d', or goes before it: by an earlier byte, or at one byte the number's size before the fold, and the path before
-- the final polynomial.
pub data Before (c d c' d' : ℕ) : Type 0 where
  same : c ≡ c' → d ≡ d' → Before c d c' d'
  earlier : d < d' → Before c d c' d'
  number_first : c ≡ not_below_modulus → c' ≡ not_the_folded_value → d ≡ d' → Before c d c' d'
  path_first : c ≡ path_misses_root → c' ≡ misses_final_polynomial → d ≡ d' → Before c d c' d'

-- It is the first fault.
abbrev pub First : Faults → ℕ → ℕ → Type 0
First F c d = (c' d' : ℕ) → F c' d' → Before c d c' d'
