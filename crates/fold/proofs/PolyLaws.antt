-- Coefficients below the modulus, and a loop that evaluates the first n of some coefficients from the last ones down: its start, a turn, its end.
-- Assumes nothing.
use Prim.Native.Nat.{ℕ, zero, suc, ◌+◌, ◌-◌, ◌≤◌, ◌<◌}
use mathlib.Core.List.{List, []}
use mathlib.Core.Path.{◌≡◌, sym, ap, ap₂, ◌∙◌}
use native.Mathlib.Omega.{arith}
use lib.Dec.{lit<}
use lib.ListN.{length, take, drop, get_or, drop_of_length-le}
use lib.Seq.{drop-cons, get_or-take, length-take-le, take-length, take-take}
use Rattle.field.specs.Modular.{p, add_mod, mul_mod}
use Rattle.field.proofs.Laws.{add_mod_lt, mul_mod_comm}
use Rattle.field.proofs.Ring.{val, ◌⊕◌, ◌⊗◌, ring}
use Rattle.fold.specs.Poly.{eval, Below, empty, more}

-- Past the last coefficient stands 0, so no length has to be known here.
pub below_at : {f : List ℕ} → Below f → (i : ℕ) → get_or f i 0 < p
below_at empty i = lit< tt
below_at (more h r) zero = h
below_at (more h r) (suc i) = below_at r i

module _ (cs : List ℕ) (n x : ℕ) (h : n ≤ length cs) where
  pub horner_start : 0 ≡ eval (drop n (take n cs)) x
  unfolding eval
  horner_start =
      let none : drop n (take n cs) ≡ [] = drop_of_length-le (take n cs) {i = n} (omega (arith, length-take-le n cs h)) in
      rw none

  one_more : {v : ℕ} (i j : ℕ) → j ≡ suc i → j ≤ n → v ≡ eval (drop j (take n cs)) x → add_mod (get_or cs i 0) (mul_mod x v) ≡ eval (drop i (take n cs)) x
  unfolding eval
  one_more i j s k e =
      let inside : i < length (take n cs) = omega (arith, length-take-le n cs h) in
      sym (ap (λ (l : List ℕ). eval l x) (drop-cons (take n cs) i 0 inside)
      ∙ ap₂ (λ (u w : ℕ). add_mod u (mul_mod x w)) (get_or-take n cs i 0 (omega arith)) (ap (λ (k : ℕ). eval (drop k (take n cs)) x) (sym s) ∙ sym e))

  -- a turn takes two coefficients, from i − 2 on
  pub horner_turn : {v s r : ℕ} (i : ℕ) → 1 < i → i ≤ n → v ≡ eval (drop i (take n cs)) x → s ≡ mul_mod x x
      → r ≡ add_mod (get_or cs (i - 2) 0) (mul_mod (get_or cs (i - 2 + 1) 0) x) → add_mod r (mul_mod v s) ≡ eval (drop (i - 2) (take n cs)) x
  horner_turn {v} i l k e f g =
      let a = get_or cs (i - 2) 0 in
      let b = get_or cs (i - 2 + 1) 0 in
      ap₂ (λ (u w : ℕ). add_mod u (mul_mod v w)) g f
      ∙ ring (val a ⊕ val b ⊗ val x ⊕ val v ⊗ (val x ⊗ val x)) (val a ⊕ val x ⊗ (val b ⊕ val x ⊗ val v)) (add_mod_lt _ _) (add_mod_lt _ _) 0 0 (omega arith)
      ∙ one_more (i - 2) (i - 2 + 1) (omega arith) (omega arith) (one_more (i - 2 + 1) i (omega arith) k e)

  -- an odd number of coefficients leaves the first one
  pub horner_last : {v : ℕ} (i : ℕ) → i ≡ 1 → i ≤ n → v ≡ eval (drop i (take n cs)) x → add_mod (get_or cs 0 0) (mul_mod v x) ≡ eval (take n cs) x
  horner_last {v} i z k e = ap (add_mod (get_or cs 0 0)) (mul_mod_comm v x) ∙ one_more 0 i z k e

-- The same of all coefficients, as a loop walks them that takes two off the end of the rest: what is multiplied so far is the value of those behind the rest.
module _ (cs : List ℕ) (x : ℕ) where
  pub none_behind : 0 ≡ eval (drop (length cs) cs) x
  none_behind = rw take-length at (horner_start cs (length cs) x (omega arith))

  -- what the rest has, the coefficients have
  at_front : (rest : List ℕ) → rest ≡ take (length rest) cs → (j : ℕ) → j < length rest → get_or rest j 0 ≡ get_or cs j 0
  at_front rest e j h = ap (λ (l : List ℕ). get_or l j 0) e ∙ get_or-take (length rest) cs j 0 h

  pub front_shorter : (rest : List ℕ) → rest ≡ take (length rest) cs → take (length rest - 2) rest ≡ take (length (take (length rest - 2) rest)) cs
  front_shorter rest e =
      ap (take (length rest - 2)) e ∙ take-take (length rest - 2) (length rest) cs (omega arith)
      ∙ ap (λ (k : ℕ). take k cs) (sym (length-take-le (length rest - 2) rest (omega arith)))

  pub pair_behind : {v s r w : ℕ} (rest : List ℕ) → rest ≡ take (length rest) cs → length rest ≤ length cs → 2 ≤ length rest → v ≡ eval (drop (length rest) cs) x
      → s ≡ mul_mod x x → r ≡ add_mod (get_or rest (length rest - 2) 0) (mul_mod (get_or rest (length rest - 1) 0) x) → w ≡ add_mod r (mul_mod v s)
      → w ≡ eval (drop (length (take (length rest - 2) rest)) cs) x
  pair_behind {v} {s} {r} rest e l k f g q t =
      let n = length rest in
      let whole : take (length cs) cs ≡ cs = take-length cs in
      let low : get_or rest (n - 2) 0 ≡ get_or cs (n - 2) 0 = at_front rest e (n - 2) (omega arith) in
      let high : get_or rest (n - 1) 0 ≡ get_or cs (n - 2 + 1) 0 = at_front rest e (n - 1) (omega arith) ∙ ap (λ (k : ℕ). get_or cs k 0) (omega arith) in
      t
      ∙ horner_turn cs (length cs) x (omega arith) n k l (f ∙ ap (λ (l : List ℕ). eval (drop n l) x) (sym whole)) g (q ∙ ap₂ (λ (a b : ℕ). add_mod a (mul_mod b x)) low high)
      ∙ ap₂ (λ (m : ℕ) (l : List ℕ). eval (drop m l) x) (sym (length-take-le (n - 2) rest (omega arith))) whole

  -- an odd number of coefficients leaves the first one
  pub first_left : {v w : ℕ} (rest : List ℕ) → rest ≡ take (length rest) cs → length rest ≤ length cs → length rest ≡ 1 → v ≡ eval (drop (length rest) cs) x
      → w ≡ add_mod (get_or rest 0 0) (mul_mod v x) → w ≡ eval cs x
  first_left {v} rest e l k f t =
      let whole : take (length cs) cs ≡ cs = take-length cs in
      t ∙ ap (λ (a : ℕ). add_mod a (mul_mod v x)) (at_front rest e 0 (omega arith))
      ∙ horner_last cs (length cs) x (omega arith) (length rest) k l (f ∙ ap (λ (l : List ℕ). eval (drop (length rest) l) x) (sym whole))
      ∙ ap (λ (l : List ℕ). eval l x) whole
