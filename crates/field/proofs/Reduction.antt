-- The quotient by p that `reduce` takes is never too large, and what is left when p is taken away so often has 32 bits and the same remainder.
-- Assumes nothing.
use Rattle.std.proofs.Common.{◌≡◌, ℕ, ◌+◌, ◌*◌, ◌/◌, ◌%◌, ◌<◌, ◌≤◌, sym, ap, ◌∙◌, arith}
use native.Mathlib.Nat.{add-mul-mod_self_left}
use Rattle.field.specs.Modular.{p, add_mod, mul_mod}

-- 2^30, 2^32 and 2^64
abbrev unit : ℕ
unit = 1073741824

abbrev word : ℕ
word = 4294967296

abbrev two_words : ℕ
two_words = 18446744073709551616

-- 2^32 times how often p goes into a: a, a quarter of it, and the rest of a third, which is counted from 2^33
abbrev pub share : ℕ → ℕ
share a = a + (a / 4 + 715827879 * (a / 8589934592))

abbrev pub count : ℕ → ℕ
count a = share a / word

-- of the sum modulo 2^64 the upper half is the count modulo 2^32
upper_half : (t : ℕ) → t % two_words / word ≡ t / word % word
upper_half t = omega arith

pub counted : (a : ℕ) {w b : ℕ} → b ≡ 715827879 * (a / 8589934592) → w ≡ (a + (a / 4 + b)) % two_words → w / word ≡ count a % word
counted a e f = ap (λ (x : ℕ). x / word) (f ∙ ap (λ (x : ℕ). (a + (a / 4 + x)) % two_words) e) ∙ upper_half (share a)

-- the share is not above 2^32 / p times the number
share_small : (a : ℕ) → p * share a ≤ word * a
share_small a = omega arith

-- and so little below it, in the quarter and in the rest, that the count leaves less than 2^32
quarter : (a : ℕ) → p * a ≤ 4 * p * (a / 4) + 3 * p
quarter a = omega arith

rest : (a : ℕ) → a < two_words → 4 * word * a + 4 * word * p + 3 * p ≤ 5 * p * a + 4 * p * (715827879 * (a / 8589934592)) + 4 * two_words
rest a small = omega arith

share_large : (a : ℕ) → a < two_words → word * a + word * p ≤ p * share a + two_words
share_large a small = omega (arith, quarter a, rest a small)

not_above : (a t : ℕ) → p * t ≤ word * a → p * (t / word) ≤ a
not_above a t h = omega arith

not_below : (a t : ℕ) → word * a + word * p ≤ p * t + two_words → a < p * (t / word) + word
not_below a t h = omega arith

-- modulo 2^32 three units taken away are one added
three_units : (q : ℕ) → (unit * (q % word % 4) + p * q) % word ≡ q % word
three_units q =
    let words = q % word % 4 + 3 * (q % word / 4) + 3 * unit * (q / word) in
    let whole : unit * (q % word % 4) + p * q ≡ q + word * words = omega arith in
    ap (λ (x : ℕ). x % word) whole ∙ add-mul-mod_self_left q word words

-- a difference that is below 2^32 is known from its parts modulo 2^32: s is a less q, and y + n is q
difference : (a n q s y r : ℕ) → n ≤ a → a < n + word → (y + n) % word ≡ q % word → (s + q % word) % word ≡ a % word → r ≡ (s + y) % word → r + n ≡ a
difference a n q s y r h k e f g = omega arith

same_remainder : (a q r : ℕ) → r + p * q ≡ a → r % p ≡ a % p
same_remainder a q r e = omega arith

-- what is left of a: s is a less the count, and r is s and a unit for each of the count
pub taken_away : (a u s r : ℕ) → a < two_words → u ≡ count a % word → (s + u) % word ≡ a % word → r ≡ (s + unit * (u % 4)) % word → r % p ≡ a % p
taken_away a u s r small e f g =
    same_remainder a (count a) r
    (difference a (p * count a) (count a) s (unit * (count a % word % 4)) r
    (not_above a (share a) (share_small a))
    (not_below a (share a) (share_large a small))
    (three_units (count a))
    (ap (λ (x : ℕ). (s + x) % word) (sym e) ∙ f)
    (g ∙ ap (λ (x : ℕ). (s + unit * (x % 4)) % word) e))

pub product_and_number : (a b c : ℕ) → (a * b + c) % p ≡ add_mod c (mul_mod a b)
unfolding add_mod mul_mod
product_and_number a b c = omega arith
