-- Two rotations of a word, by p and by p + q places, are one rotation of the word and its own rotation by q: fewer operations.
-- Assumes nothing.
use mathlib.Core.Path.{◌≡◌, sym, ap, ap₂, ◌∙◌, subst}
use Prim.Native.Nat.{ℕ, ◌+◌, ◌-◌, ◌*◌, ◌/◌, ◌%◌, ◌^◌, ◌<◌}
use native.Mathlib.Nat.{add-zero, mul-mod_left, mod-lt, lt_of_le_of_lt}
use native.Mathlib.Omega.{arith}
use lib.Bits.{bit_or, bit_xor, or_lt, or_shifted_r, xor_lt, xor_shr, xor_mod, xor_block}
use lib.Pow.{pow_pos, pow-add, shr_le, shr_lt, shl-shr, shr-shr, split, high, low, mod-pow-add}
use Rattle.std.specs.Int.{rotate_right, w32}
use Rattle.sha256.specs.Words.{rotr}

-- the rotation by n places as a sum, where k places are left
abbrev turn : ℕ → ℕ → ℕ → ℕ
turn n k x = x % 2 ^ n * 2 ^ k + x / 2 ^ n

high_part : (n k x : ℕ) → n + k ≡ 32 → x < 2 ^ 32 → x / 2 ^ n < 2 ^ k
high_part n k x e h =
    let count : 32 ≡ k + n = omega arith in
    shr_lt k n (subst (λ (j : ℕ). x < 2 ^ j) count h)

rotr_turn : (n k x : ℕ) → n + k ≡ 32 → x < 2 ^ 32 → rotr n x ≡ turn n k x
unfolding rotr
rotr_turn n k x e h =
    let left : 32 - n ≡ k = omega arith in
    let part : x * 2 ^ k % 2 ^ (n + k) ≡ x % 2 ^ n * 2 ^ k =
    mod-pow-add (x * 2 ^ k) n k ∙ ap₂ ◌+◌ (ap (λ (y : ℕ). y % 2 ^ n * 2 ^ k) (shl-shr x k)) (mul-mod_left x (2 ^ k)) ∙ add-zero _
    in
    ap (bit_or (x / 2 ^ n)) (ap₂ (λ (i j : ℕ). x * 2 ^ i % 2 ^ j) left (sym e) ∙ part)
    ∙ or_shifted_r (x % 2 ^ n) k (x / 2 ^ n) (high_part n k x e h)

rotr_lt : (n x : ℕ) → x < 2 ^ 32 → rotr n x < 2 ^ 32
unfolding rotr
rotr_lt n x h = or_lt 32 _ _ (lt_of_le_of_lt (shr_le x n) h) (mod-lt _ (pow_pos 32))

turn_xor : (n k a b : ℕ) → n + k ≡ 32 → a < 2 ^ 32 → b < 2 ^ 32 → turn n k (bit_xor a b) ≡ bit_xor (turn n k a) (turn n k b)
turn_xor n k a b e h l =
    ap₂ (λ (i j : ℕ). i * 2 ^ k + j) (xor_mod a b n) (xor_shr a b n)
    ∙ sym (xor_block k (a % 2 ^ n) (b % 2 ^ n) (a / 2 ^ n) (b / 2 ^ n) (high_part n k a e h) (high_part n k b e l))

-- a turn by q and then by p is a turn by p + q
regroup : (a b c p r : ℕ) → a * (p * r) + (c * p + b) ≡ (a * r + c) * p + b
regroup a b c p r = omega arith

spread : (a b c q r : ℕ) → b * (q * r) + (a * r + c) ≡ (b * q + a) * r + c
spread a b c q r = omega arith

turn_turn : (p q r x : ℕ) → turn p (q + r) (turn q (p + r) x) ≡ turn (p + q) r x
turn_turn p q r x =
    ap₂ (λ (i j : ℕ). i * 2 ^ (q + r) + j) (ap (λ (n : ℕ). n % 2 ^ p) made ∙ low _ p (mod-lt _ (pow_pos p))) (ap (λ (n : ℕ). n / 2 ^ p) made ∙ high _ p (mod-lt _ (pow_pos p)))
    ∙ ap (λ (n : ℕ). b * n + (a * 2 ^ r + c)) (pow-add 2 q r) ∙ spread a b c (2 ^ q) (2 ^ r)
    ∙ sym (ap₂ (λ (i j : ℕ). i * 2 ^ r + j) (mod-pow-add x p q) (ap (λ (n : ℕ). x / 2 ^ n) (sum q p) ∙ sym (shr-shr x q p)))
  where
    sum : (i j : ℕ) → j + i ≡ i + j
    sum i j = omega arith

    a : ℕ
    a = x % 2 ^ q

    b : ℕ
    b = x / 2 ^ q % 2 ^ p

    c : ℕ
    c = x / 2 ^ q / 2 ^ p

    made : turn q (p + r) x ≡ (a * 2 ^ r + c) * 2 ^ p + b
    made = ap₂ (λ (i j : ℕ). a * i + j) (pow-add 2 p r) (sym (split (x / 2 ^ q) p)) ∙ regroup a b c (2 ^ p) (2 ^ r)

-- std's rotation is the standard's
pub rotate_is : (x n : ℕ) → 0 < n → n < 32 → rotate_right w32 x n ≡ rotr n x
unfolding rotr
rotate_is x n a b =
    let same : n % 32 ≡ n = omega arith in
    let left : (32 - n) % 32 ≡ 32 - n = omega arith in
    rw (same, left)

pub rotr_both : (p q r x : ℕ) → p + q + r ≡ 32 → x < 2 ^ 32 → rotr p (bit_xor x (rotr q x)) ≡ bit_xor (rotr p x) (rotr (p + q) x)
rotr_both p q r x e h =
    let few : p + (q + r) ≡ 32 = omega arith in
    let own : q + (p + r) ≡ 32 = omega arith in
    rotr_turn p (q + r) _ few (xor_lt 32 _ _ h (rotr_lt q x h)) ∙ turn_xor p (q + r) x (rotr q x) few h (rotr_lt q x h)
    ∙ ap₂ bit_xor (sym (rotr_turn p (q + r) x few h))
    (ap (turn p (q + r)) (rotr_turn q (p + r) x own h) ∙ turn_turn p q r x ∙ sym (rotr_turn (p + q) r x e h))
