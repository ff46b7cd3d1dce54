-- How to prove an equation of modular expressions: write both sides as an `Expr`, and say by which multiple of p the plain polynomials differ, in which a
-- difference is a sum with p − 1 times the number. `omega` proves that equation, since it multiplies products out.
-- Assumes nothing.
use Rattle.std.proofs.Common.{◌≡◌, ℕ, ◌+◌, ◌*◌, ◌%◌, ◌<◌, sym, refl, ap, ◌∙◌, mod-eq_of_lt}
use native.Mathlib.Nat.{mod-mod, mod-add-mod, add-mod-mod, add-mul-mod_self_left}
use Rattle.field.specs.Modular.{p, add_mod, sub_mod, mul_mod, neg_mod}
use Rattle.std.proofs.lemmas.Nat.{mul-mod_first, mul-mod_second}
use Rattle.field.proofs.Laws.{mul_mod_minus_one, sub_mod_neg}

infixl 60 ◌⊕◌
infixl 60 ◌⊖◌
infixl 70 ◌⊗◌
pub data Expr : Type 0 where
  val : ℕ → Expr
  ◌⊕◌ ◌⊖◌ ◌⊗◌ : Expr → Expr → Expr
  neg : Expr → Expr

-- the modular value, and the plain polynomial
abbrev pub eval : Expr → ℕ
eval (val a) = a
eval (s ⊕ t) = add_mod (eval s) (eval t)
eval (s ⊖ t) = sub_mod (eval s) (eval t)
eval (s ⊗ t) = mul_mod (eval s) (eval t)
eval (neg s) = neg_mod (eval s)

abbrev pub plain : Expr → ℕ
plain (val a) = a
plain (s ⊕ t) = plain s + plain t
plain (s ⊖ t) = plain s + 3221225472 * plain t
plain (s ⊗ t) = plain s * plain t
plain (neg s) = 3221225472 * plain s

-- a sum and a product depend on their arguments' remainders alone
sum_same : (a b c d : ℕ) → a % p ≡ c % p → b % p ≡ d % p → (a + b) % p ≡ (c + d) % p
sum_same a b c d e f =
    sym (mod-add-mod a p b) ∙ ap (λ (x : ℕ). (x + b) % p) e ∙ mod-add-mod c p b ∙ sym (add-mod-mod c b p)
    ∙ ap (λ (x : ℕ). (c + x) % p) f ∙ add-mod-mod c d p

product_same : (a b c d : ℕ) → a % p ≡ c % p → b % p ≡ d % p → a * b % p ≡ c * d % p
product_same a b c d e f =
    sym (mul-mod_first a b p) ∙ ap (λ (x : ℕ). x * b % p) e ∙ mul-mod_first c b p ∙ sym (mul-mod_second c b p)
    ∙ ap (λ (x : ℕ). c * x % p) f ∙ mul-mod_second c d p

add_mod_mod : (a b : ℕ) → add_mod a b % p ≡ (a + b) % p
unfolding add_mod
add_mod_mod a b = mod-mod (a + b) p

mul_mod_mod : (a b : ℕ) → mul_mod a b % p ≡ a * b % p
unfolding mul_mod
mul_mod_mod a b = mod-mod (a * b) p

neg_mod_mod : (a : ℕ) → neg_mod a % p ≡ 3221225472 * a % p
neg_mod_mod a = ap (λ (x : ℕ). x % p) (sym (mul_mod_minus_one a)) ∙ mul_mod_mod 3221225472 a

eval-plain : (t : Expr) → eval t % p ≡ plain t % p
eval-plain (val a) = refl
eval-plain (s ⊕ t) = add_mod_mod (eval s) (eval t) ∙ sum_same _ _ _ _ (eval-plain s) (eval-plain t)
eval-plain (s ⊖ t) =
    ap (λ (x : ℕ). x % p) (sub_mod_neg (eval s) (eval t)) ∙ add_mod_mod (eval s) (neg_mod (eval t))
    ∙ sum_same _ _ _ _ (eval-plain s) (neg_mod_mod (eval t) ∙ product_same 3221225472 _ 3221225472 _ refl (eval-plain t))
eval-plain (s ⊗ t) = mul_mod_mod (eval s) (eval t) ∙ product_same _ _ _ _ (eval-plain s) (eval-plain t)
eval-plain (neg s) = neg_mod_mod (eval s) ∙ product_same 3221225472 _ 3221225472 _ refl (eval-plain s)

-- equal remainders, where the plain polynomials differ by multiples of p
pub ring_mod : (s t : Expr) (q r : ℕ) → plain s + p * q ≡ plain t + p * r → eval s % p ≡ eval t % p
ring_mod s t q r e =
    eval-plain s ∙ sym (add-mul-mod_self_left (plain s) p q) ∙ ap (λ (x : ℕ). x % p) e ∙ add-mul-mod_self_left (plain t) p r
    ∙ sym (eval-plain t)

-- equal values, where both are below p
pub ring : (s t : Expr) → eval s < p → eval t < p → (q r : ℕ) → plain s + p * q ≡ plain t + p * r → eval s ≡ eval t
ring s t ls lt q r e = sym (mod-eq_of_lt ls) ∙ ring_mod s t q r e ∙ mod-eq_of_lt lt
