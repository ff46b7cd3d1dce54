-- Indices in a layer. The index of layer j is m mod 2^(n−1−j), where m is the drawn leaf, the index of layer 0. Assumes nothing.
use Prim.Native.Nat.{ℕ, suc, ◌+◌, ◌^◌, ◌%◌, ◌-◌, ◌<◌, ◌≤◌}
use mathlib.Core.Path.{◌≡◌, ap, ◌∙◌}
use native.Mathlib.Nat.{pow-suc, mod-eq_of_lt, mod-lt, mod-eq-sub-mod}
use native.Mathlib.Omega.{arith}
use lib.Pow.{pow_pos, mod-mod-pow}
use Rattle.domain.specs.Domain.{half}

-- A layer has two indices for each index of the next layer.
pub half_double : (n j : ℕ) → suc j < n → half n j ≡ half n (suc j) + half n (suc j)
unfolding half
half_double n j h = ap (λ e. 2 ^ e) (omega arith) ∙ pow-suc 2 (n - suc (suc j)) ∙ omega arith

pub mod_half : (n j m : ℕ) → m % half n j < half n j
unfolding half
mod_half n j m = mod-lt m (pow_pos (n - suc j))

-- Each of these powers divides those of the layers before, so a later layer's index may be taken from any earlier one's.
pub leaf_later : (n j l m : ℕ) → j ≤ l → m % half n j % half n l ≡ m % half n l
unfolding half
leaf_later n j l m h = ap (λ u. m % 2 ^ u % 2 ^ (n - suc l)) more ∙ mod-mod-pow m (n - suc j - (n - suc l)) (n - suc l)
  where
    more : n - suc j ≡ n - suc j - (n - suc l) + (n - suc l)
    more = omega arith

pub leaf-next : (n j m : ℕ) → m % half n j % half n (suc j) ≡ m % half n (suc j)
leaf-next n j m = leaf_later n j (suc j) m (omega arith)

-- An index m in the upper half is its leaf plus half.
pub wrap : (m h : ℕ) → h ≤ m → m < h + h → m % h + h ≡ m
wrap m h l k =
    let low : m - h < h = omega arith in
    rw (mod-eq-sub-mod l, mod-eq_of_lt low) (omega arith)
