-- Powers of a product of exponents, and of 1.
-- Assumes nothing.
use Rattle.std.proofs.Common.{◌≡◌, ℕ, zero, suc, ◌*◌, ◌^◌, sym, ap, ◌∙◌, pow-suc, mul-zero, mul-one, mul-suc, pow-add}
use native.Mathlib.Nat.{pow-zero}

pub pow_mul : (a e f : ℕ) → a ^ (e * f) ≡ (a ^ e) ^ f
pow_mul a e zero = simp (mul-zero, pow-zero)
pow_mul a e (suc f) =
    ap (λ (x : ℕ). a ^ x) (mul-suc e f) ∙ pow-add a (e * f) e ∙ ap (λ (x : ℕ). x * a ^ e) (pow_mul a e f) ∙ sym (pow-suc (a ^ e) f)

pub one_pow : (e : ℕ) → 1 ^ e ≡ 1
one_pow zero = pow-zero 1
one_pow (suc e) = pow-suc 1 e ∙ mul-one (1 ^ e) ∙ one_pow e
