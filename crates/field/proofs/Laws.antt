-- The laws of arithmetic modulo p that callers use: a commutative ring, powers, and units. No argument has to be below p unless a law says so.
-- Assumes nothing.
use Rattle.std.proofs.Common.{◌≡◌, ℕ, zero, suc, ◌+◌, ◌-◌, ◌*◌, ◌/◌, ◌%◌, ◌^◌, ◌<◌, sym, refl, ap, ◌∙◌, add_assoc, mod-lt, mod-eq_of_lt, zero-lt-suc, mul_assoc, mul_comm, one-mul, pow-suc, zero-mul, mul-add, arith, pow-add}
use native.Mathlib.Nat.{mod-mod, mod-add-mod, add-mod-mod, pow-zero}
use Rattle.field.specs.Modular.{p, add_mod, sub_mod, mul_mod, neg_mod, pow_mod}
use Rattle.std.proofs.lemmas.Nat.{mul-mod_first, mul-mod_second, pow-mod, mul-pow}
use Rattle.field.proofs.Powers.{pow_mul, one_pow}

-- every result is below p

pub add_mod_lt : (a b : ℕ) → add_mod a b < p
unfolding add_mod
add_mod_lt a b = omega arith

pub sub_mod_lt : (a b : ℕ) → sub_mod a b < p
unfolding sub_mod
sub_mod_lt a b = omega arith

pub mul_mod_lt : (a b : ℕ) → mul_mod a b < p
unfolding mul_mod
mul_mod_lt a b = mod-lt (a * b) (zero-lt-suc 3221225472)

pub pow_mod_lt : (a e : ℕ) → pow_mod a e < p
unfolding pow_mod
pow_mod_lt a e = mod-lt (a ^ e) (zero-lt-suc 3221225472)

-- an argument may be reduced first

pub mul_mod_reduce : (a b : ℕ) → mul_mod (a % p) b ≡ mul_mod a b
unfolding mul_mod
mul_mod_reduce a b = mul-mod_first a b p

pub pow_mod_reduce : (a e : ℕ) → pow_mod (a % p) e ≡ pow_mod a e
unfolding pow_mod
pow_mod_reduce a e = pow-mod a e p

pub neg_mod_reduce : (a : ℕ) → neg_mod (a % p) ≡ neg_mod a
unfolding neg_mod
neg_mod_reduce a = ap (λ (x : ℕ). (p - x) % p) (mod-mod a p)

-- sums, differences and negation

pub add_mod_comm : (a b : ℕ) → add_mod a b ≡ add_mod b a
unfolding add_mod
add_mod_comm a b = omega arith

pub add_mod_assoc : (a b c : ℕ) → add_mod (add_mod a b) c ≡ add_mod a (add_mod b c)
unfolding add_mod
add_mod_assoc a b c = simp (mod-add-mod, add-mod-mod, add_assoc)

pub add_mod_zero : (a : ℕ) → add_mod a 0 ≡ a % p
unfolding add_mod
add_mod_zero a = omega arith

pub add_mod_neg : (a : ℕ) → add_mod a (neg_mod a) ≡ 0
unfolding add_mod neg_mod
add_mod_neg a = omega arith

pub sub_mod_neg : (a b : ℕ) → sub_mod a b ≡ add_mod a (neg_mod b)
unfolding add_mod sub_mod neg_mod
sub_mod_neg a b = sym (add-mod-mod a (p - b % p) p)

-- the only number below p that gives 0 with a is its negative
pub neg_mod_unique : (a b : ℕ) → b < p → add_mod a b ≡ 0 → b ≡ neg_mod a
unfolding add_mod neg_mod
neg_mod_unique a b h e = omega arith

-- products

pub mul_mod_comm : (a b : ℕ) → mul_mod a b ≡ mul_mod b a
unfolding mul_mod
mul_mod_comm a b = ap (λ (x : ℕ). x % p) (mul_comm a b)

pub mul_mod_assoc : (a b c : ℕ) → mul_mod (mul_mod a b) c ≡ mul_mod a (mul_mod b c)
unfolding mul_mod
mul_mod_assoc a b c = simp (mul-mod_first, mul-mod_second, mul_assoc)

pub mul_mod-one : (a : ℕ) → mul_mod 1 a ≡ a % p
unfolding mul_mod
mul_mod-one a = simp one-mul

pub mul_mod_zero : (a : ℕ) → mul_mod 0 a ≡ 0
unfolding mul_mod
mul_mod_zero a = simp zero-mul

pub mul_mod_two : (a : ℕ) → mul_mod 2 a ≡ add_mod a a
unfolding add_mod mul_mod
mul_mod_two a = omega arith

pub mul_mod-add_mod : (a b c : ℕ) → mul_mod a (add_mod b c) ≡ add_mod (mul_mod a b) (mul_mod a c)
unfolding add_mod mul_mod
mul_mod-add_mod a b c = simp (mul-mod_second, mod-add-mod, add-mod-mod, mul-add)

pub mul_mod-neg_mod : (a b : ℕ) → mul_mod a (neg_mod b) ≡ neg_mod (mul_mod a b)
mul_mod-neg_mod a b =
    neg_mod_unique (mul_mod a b) (mul_mod a (neg_mod b)) (mul_mod_lt a (neg_mod b))
    (sym (mul_mod-add_mod a b (neg_mod b)) ∙ ap (mul_mod a) (add_mod_neg b) ∙ mul_mod_comm a 0 ∙ mul_mod_zero a)

pub mul_mod-left_comm : (a b c : ℕ) → mul_mod a (mul_mod b c) ≡ mul_mod b (mul_mod a c)
mul_mod-left_comm a b c = sym (mul_mod_assoc a b c) ∙ ap (λ (x : ℕ). mul_mod x c) (mul_mod_comm a b) ∙ mul_mod_assoc b a c

-- p − 1 is the negative of 1
pub neg_mod-one : neg_mod 1 ≡ 3221225472
unfolding neg_mod
neg_mod-one = refl

pub mul_mod_minus_one : (a : ℕ) → mul_mod 3221225472 a ≡ neg_mod a
mul_mod_minus_one a =
    mul_mod_comm 3221225472 a ∙ ap (mul_mod a) (sym neg_mod-one) ∙ mul_mod-neg_mod a 1 ∙ ap neg_mod (mul_mod_comm a 1 ∙ mul_mod-one a) ∙ neg_mod_reduce a

pub minus_one_squared : mul_mod 3221225472 3221225472 ≡ 1
unfolding mul_mod
minus_one_squared = refl

-- powers

pub pow_mod_zero : (a : ℕ) → pow_mod a 0 ≡ 1
unfolding pow_mod
pow_mod_zero a = simp pow-zero

pub pow_mod_suc : (a e : ℕ) → pow_mod a (suc e) ≡ mul_mod a (pow_mod a e)
unfolding mul_mod pow_mod
pow_mod_suc a e = ap (λ (x : ℕ). x % p) (pow-suc a e ∙ mul_comm (a ^ e) a) ∙ sym (mul-mod_second a (a ^ e) p)

pub pow_mod-one : (a : ℕ) → pow_mod a 1 ≡ a % p
pow_mod-one a = pow_mod_suc a 0 ∙ ap (mul_mod a) (pow_mod_zero a) ∙ mul_mod_comm a 1 ∙ mul_mod-one a

pub pow_mod_add : (a e f : ℕ) → pow_mod a (e + f) ≡ mul_mod (pow_mod a e) (pow_mod a f)
unfolding mul_mod pow_mod
pow_mod_add a e f = ap (λ (x : ℕ). x % p) (pow-add a e f) ∙ sym (mul-mod_first (a ^ e) (a ^ f % p) p ∙ mul-mod_second (a ^ e) (a ^ f) p)

pub pow_mod_mul : (a e f : ℕ) → pow_mod a (e * f) ≡ pow_mod (pow_mod a e) f
unfolding pow_mod
pow_mod_mul a e f = ap (λ (x : ℕ). x % p) (pow_mul a e f) ∙ sym (pow-mod (a ^ e) f p)

pub pow_mod-mul_mod : (a b e : ℕ) → pow_mod (mul_mod a b) e ≡ mul_mod (pow_mod a e) (pow_mod b e)
unfolding mul_mod pow_mod
pow_mod-mul_mod a b e =
    pow-mod (a * b) e p ∙ ap (λ (x : ℕ). x % p) (mul-pow a b e) ∙ sym (mul-mod_first (a ^ e) (b ^ e % p) p ∙ mul-mod_second (a ^ e) (b ^ e) p)

pub pow_mod_of_one : (e : ℕ) → pow_mod 1 e ≡ 1
unfolding pow_mod
pow_mod_of_one e = ap (λ (x : ℕ). x % p) (one_pow e)

pub pow_mod_two : (a : ℕ) → pow_mod a 2 ≡ mul_mod a a
pow_mod_two a = pow_mod_suc a 1 ∙ ap (mul_mod a) (pow_mod-one a) ∙ mul_mod_comm a (a % p) ∙ mul_mod_reduce a a

-- the odd rule: once the base, and one less in the exponent
pub pow_mod_pred : (a e : ℕ) → 0 < e → mul_mod a (pow_mod a (e - 1)) ≡ pow_mod a e
pow_mod_pred a zero h = omega arith
pow_mod_pred a (suc e) h = ap (λ (x : ℕ). mul_mod a (pow_mod a x)) (omega arith) ∙ sym (pow_mod_suc a e)

-- the even rule: half the exponent, of the square
pub pow_mod-half : (a e : ℕ) → e % 2 ≡ 0 → pow_mod (mul_mod a a) (e / 2) ≡ pow_mod a e
pow_mod-half a e h =
    ap (λ (x : ℕ). pow_mod x (e / 2)) (sym (pow_mod_two a)) ∙ sym (pow_mod_mul a 2 (e / 2)) ∙ ap (pow_mod a) (omega arith)

-- the two rules as they are walked, with m multiplied so far; what a product is passed on as need not be below p
pub power_done : (m a : ℕ) {e : ℕ} → e ≡ 0 → m % p ≡ mul_mod m (pow_mod a e)
power_done m a z = sym (ap (λ (x : ℕ). mul_mod m (pow_mod a x)) z ∙ ap (mul_mod m) (pow_mod_zero a) ∙ mul_mod_comm m 1 ∙ mul_mod-one m)

pub power_from_one : (a e : ℕ) → mul_mod 1 (pow_mod a e) ≡ pow_mod a e
power_from_one a e = mul_mod-one (pow_mod a e) ∙ mod-eq_of_lt (pow_mod_lt a e)

pub power_once : {r : ℕ} (m a e s : ℕ) → e % 2 ≡ 1 → s % p ≡ mul_mod m a → r ≡ mul_mod s (pow_mod a (e - 1)) → r ≡ mul_mod m (pow_mod a e)
power_once m a e s h f g =
    g ∙ sym (mul_mod_reduce s (pow_mod a (e - 1))) ∙ ap (λ (x : ℕ). mul_mod x (pow_mod a (e - 1))) f ∙ mul_mod_assoc m a (pow_mod a (e - 1))
    ∙ ap (mul_mod m) (pow_mod_pred a e (omega arith))

pub power_halved : {r : ℕ} (m a e s : ℕ) → e % 2 ≡ 0 → s % p ≡ mul_mod a a → r ≡ mul_mod m (pow_mod s (e / 2)) → r ≡ mul_mod m (pow_mod a e)
power_halved m a e s h f g =
    g ∙ ap (mul_mod m) (sym (pow_mod_reduce s (e / 2)) ∙ ap (λ (x : ℕ). pow_mod x (e / 2)) f ∙ pow_mod-half a e h)

-- units: numbers u with a v such that u·v = 1

pub mul_mod_cancel : (u v x y : ℕ) → mul_mod u v ≡ 1 → mul_mod u x ≡ mul_mod u y → x % p ≡ y % p
mul_mod_cancel u v x y e h = sym (back x) ∙ ap (mul_mod v) h ∙ back y
  where
    back : (z : ℕ) → mul_mod v (mul_mod u z) ≡ z % p
    back z = sym (mul_mod_assoc v u z) ∙ ap (λ (w : ℕ). mul_mod w z) (mul_mod_comm v u ∙ e) ∙ mul_mod-one z

pub unit_product : (u v x y : ℕ) → mul_mod u v ≡ 1 → mul_mod x y ≡ 1 → mul_mod (mul_mod u x) (mul_mod v y) ≡ 1
unit_product u v x y e f =
    mul_mod_assoc u x (mul_mod v y) ∙ ap (mul_mod u) (mul_mod-left_comm x v y ∙ ap (mul_mod v) f) ∙ sym (mul_mod_assoc u v 1)
    ∙ ap (λ (w : ℕ). mul_mod w 1) e ∙ mul_mod-one 1

pub unit_power : (u v e : ℕ) → mul_mod u v ≡ 1 → mul_mod (pow_mod u e) (pow_mod v e) ≡ 1
unit_power u v e h = sym (pow_mod-mul_mod u v e) ∙ ap (λ (w : ℕ). pow_mod w e) h ∙ pow_mod_of_one e
