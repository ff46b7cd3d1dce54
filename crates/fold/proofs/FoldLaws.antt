-- `next` has the property that defines it, and is the only number below p that has it; the test without a division says the same.
-- Assumes nothing.
use mathlib.Core.Path.{◌≡◌, refl, sym, ap, ◌∙◌}
use Prim.Native.Nat.{ℕ, ◌+◌, ◌*◌, ◌<◌}
use native.Mathlib.Nat.{mod-eq_of_lt}
use mathlib.Core.Bool.{Bool, true, false}
use mathlib.Core.List.{List}
use borrow.Author.Tests.{eqb-true, eqb-false, eq-eqb, ne_eqb}
use lib.Dec.{lit<, eqb}
use native.Mathlib.Omega.{arith}
use Rattle.field.specs.Modular.{p, add_mod, sub_mod, mul_mod, inv_mod}
use Rattle.field.proofs.Ring.{Expr, val, ◌⊕◌, ◌⊖◌, ◌⊗◌, ring}
use Rattle.field.proofs.Laws.{add_mod_lt, mul_mod_lt, mul_mod_assoc, mul_mod-one, mul_mod_cancel, unit_product}
use Rattle.field.proofs.Inverse.{inverse_law, unit_positive}
use Rattle.fold.specs.Fold.{scale, folded, next, agrees, FoldsFrom, anything, expected, fits}

double_unit : (x : ℕ) → 0 < x → x < p → mul_mod (mul_mod 2 x) (inv_mod (mul_mod 2 x)) ≡ 1
double_unit x h b =
    inverse_law (mul_mod 2 x)
    (unit_positive (mul_mod 2 x) (mul_mod (inv_mod 2) (inv_mod x))
    (unit_product 2 (inv_mod 2) x (inv_mod x) (inverse_law 2 (lit< tt) (lit< tt)) (inverse_law x h b)))
    (mul_mod_lt 2 x)

pub fold_law : (x a c β : ℕ) → 0 < x → x < p → mul_mod (mul_mod 2 x) (next x β a c) ≡ folded x β a c
unfolding next
fold_law x a c β h b =
    sym (mul_mod_assoc (mul_mod 2 x) (inv_mod (mul_mod 2 x)) (folded x β a c))
    ∙ ap (λ (u : ℕ). mul_mod u (folded x β a c)) (double_unit x h b)
    ∙ mul_mod-one (folded x β a c)
    ∙ mod-eq_of_lt (add_mod_lt _ _)

pub fold_unique : (x a c β n : ℕ) → 0 < x → x < p → n < p → mul_mod (mul_mod 2 x) n ≡ folded x β a c → n ≡ next x β a c
unfolding next
fold_unique x a c β n h b l e =
    sym (mod-eq_of_lt l)
    ∙ mul_mod_cancel (mul_mod 2 x) (inv_mod (mul_mod 2 x)) n (next x β a c) (double_unit x h b) (e ∙ sym (fold_law x a c β h b))
    ∙ mod-eq_of_lt (mul_mod_lt (inv_mod (mul_mod 2 x)) (folded x β a c))

-- the fold of a polynomial's values at x and −x is even part plus β times odd part: a = e + x·o and c = e − x·o give e + β·o
pub fold_parts_sum : (x e o β : ℕ) → folded x β (add_mod e (mul_mod x o)) (sub_mod e (mul_mod x o)) ≡ mul_mod (mul_mod 2 x) (add_mod e (mul_mod β o))
fold_parts_sum x e o β =
    let xo : Expr = val x ⊗ val o in
    let a : Expr = val e ⊕ xo in
    let c : Expr = val e ⊖ xo in
    ring (val x ⊗ (a ⊕ c) ⊕ val β ⊗ (a ⊖ c)) (val 2 ⊗ val x ⊗ (val e ⊕ val β ⊗ val o)) (add_mod_lt _ _) (mul_mod_lt _ _)
    0 (x * x * o + β * e + β * x * o * 3221225471) (omega arith)

pub fold_parts : (x e o β : ℕ) → 0 < x → x < p → next x β (add_mod e (mul_mod x o)) (sub_mod e (mul_mod x o)) ≡ add_mod e (mul_mod β o)
fold_parts x e o β h b =
    sym (fold_unique x (add_mod e (mul_mod x o)) (sub_mod e (mul_mod x o)) β (add_mod e (mul_mod β o)) h b (add_mod_lt e (mul_mod β o)) (sym (fold_parts_sum x e o β)))

-- Two equations that follow from each other have one test.
same_test : (a b c d : ℕ) → (a ≡ b → c ≡ d) → (c ≡ d → a ≡ b) → eqb a b ≡ eqb c d
same_test a b c d f g = by (eqb c d) refl
  where
    by : (t : Bool) → eqb c d ≡ t → eqb a b ≡ eqb c d
    by true e = eq-eqb a b (g (eqb-true c d e)) ∙ sym e
    by false e = ne_eqb a b (λ q. eqb-false c d e (f q)) ∙ sym e

-- The test without a division tells whether v is the folded value.
pub agrees-next : (x β a c v : ℕ) → 0 < x → x < p → v < p → agrees (scale x) (folded x β a c) v ≡ eqb v (next x β a c)
unfolding agrees
agrees-next x β a c v h b l =
    same_test (mul_mod (scale x) v) (folded x β a c) v (next x β a c)
    (fold_unique x a c β v h b l)
    (λ e. ap (mul_mod (scale x)) e ∙ fold_law x a c β h b)

-- The test of the folded value says that it is the one folded from the leaf's values; where nothing is expected, every value passes.
pub fits-folds : (x β : ℕ) (values : List ℕ) (v : ℕ) → fits (expected x β values) v ≡ true → FoldsFrom x β values v
unfolding agrees
fits-folds x β values v e = eqb-true _ _ e

pub folds_fit : (x β : ℕ) (values : List ℕ) (v : ℕ) → FoldsFrom x β values v → fits (expected x β values) v ≡ true
unfolding agrees
folds_fit x β values v e = eq-eqb _ _ e

pub fits-anything : (v : ℕ) → fits anything v ≡ true
unfolding agrees mul_mod
fits-anything v = eq-eqb (mul_mod 0 v) 0 (omega arith)

-- β = x is an ordinary case: there the folded value is the first value
pub fold_at_the_point : (x a c : ℕ) → 0 < x → x < p → a < p → next x x a c ≡ a
fold_at_the_point x a c h b l =
    sym (fold_unique x a c x a h b l (ring (val 2 ⊗ val x ⊗ val a) (val x ⊗ (val a ⊕ val c) ⊕ val x ⊗ (val a ⊖ val c)) (mul_mod_lt _ _) (add_mod_lt _ _) (x * c) 0 (omega arith)))
