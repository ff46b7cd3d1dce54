-- Powers of two as code has them, in 64 bits, and 32-bit numbers cut by them. Assumes nothing.
use Prim.Native.Nat.{ℕ, ◌+◌, ◌*◌, ◌^◌, ◌-◌, ◌%◌, ◌/◌, ◌≤◌, ◌<◌}
use mathlib.Core.Path.{◌≡◌, refl, ap, sym, ◌∙◌}
use native.Mathlib.Nat.{mod-eq_of_lt, mul-mod_left, div-eq_of_lt, one-mul}
use native.Mathlib.Omega.{arith}
use borrow.Author.Tests.{ltb-false}
use Rattle.std.specs.Prelude.{Bool, true, false, nat_lt, if◌then◌else◌}
use lib.Pow.{pow_pos, pow_mono, pow-lt, pow-add}

-- A power of at most 64 bits is itself; of a larger one nothing is left.
pub power_is : {r : ℕ} (e : ℕ) → e < 64 → r ≡ 2 ^ e % 2 ^ 64 → r ≡ 2 ^ e
power_is e h made = made ∙ mod-eq_of_lt (pow-lt h)

pub power_none : (e : ℕ) → 64 ≤ e → 0 ≡ 2 ^ e % 2 ^ 64
power_none e h = sym (ap (λ x. 2 ^ x % 2 ^ 64) more ∙ ap (λ x. x % 2 ^ 64) (pow-add 2 (e - 64) 64) ∙ mul-mod_left (2 ^ (e - 64)) (2 ^ 64))
  where
    more : e ≡ e - 64 + 64
    more = omega arith

-- Up to 2^30: the power, and the bounds in which sums and products of it fit.
pub power_small : (e : ℕ) → e ≤ 30 → 2 ^ e ≤ 1073741824
power_small e h = pow_mono h

pub power_made : {r : ℕ} (e : ℕ) → e ≤ 30 → r ≡ 2 ^ e % 2 ^ 64 → (r ≡ 2 ^ e) × ((1 ≤ r) × (r ≤ 1073741824))
power_made {r} e h made =
    let is : r ≡ 2 ^ e = power_is e (omega arith) made in
    (is, (omega (arith, is, pow_pos e), omega (arith, is, power_small e h)))

-- A number of 32 bits has none above bit 32.
pub low_all : (v e : ℕ) → v < 2 ^ 32 → 32 ≤ e → v ≡ v % 2 ^ e
low_all v e h k = sym (mod-eq_of_lt (omega (arith, pow_mono k)))

pub high_none : (v e : ℕ) → v < 2 ^ 32 → 32 ≤ e → 0 ≡ v / 2 ^ e
high_none v e h k = sym (div-eq_of_lt (omega (arith, pow_mono k)))

-- A one that is shifted out of 64 bits, and a number of 32 bits of which nothing is left, as the library's methods tell them.
pub power_shifted : {r : ℕ} (e : ℕ) → r ≡ (if nat_lt e 64 then (1 * 2 ^ e) % 2 ^ 64 else 0) → r ≡ 2 ^ e % 2 ^ 64
power_shifted {r} e made = go (nat_lt e 64) refl
  where
    go : (b : Bool) → nat_lt e 64 ≡ b → r ≡ 2 ^ e % 2 ^ 64
    go true h = rw h at made ∙ ap (λ x. x % 2 ^ 64) (one-mul (2 ^ e))
    go false h = rw h at made ∙ power_none e (ltb-false e 64 h)

pub high_shifted : {r : ℕ} (v e : ℕ) → v < 2 ^ 32 → r ≡ (if nat_lt e 32 then v / 2 ^ e else 0) → r ≡ v / 2 ^ e
high_shifted {r} v e small made = go (nat_lt e 32) refl
  where
    go : (b : Bool) → nat_lt e 32 ≡ b → r ≡ v / 2 ^ e
    go true h = rw h at made
    go false h = rw h at made ∙ high_none v e small (ltb-false e 32 h)
