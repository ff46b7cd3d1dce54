-- Turns of the loops: a layer's values one point after another, and a fold that is written over the coefficients it has read.
-- Assumes nothing.
use Prim.Native.Nat.{ℕ, zero, suc, ◌+◌, ◌-◌, ◌*◌, ◌/◌, ◌%◌, ◌^◌, ◌≤◌, ◌<◌}
use mathlib.Core.List.{List, [], ◌∷◌, ◌++◌}
use mathlib.Core.Path.{◌≡◌, refl, sym, ap, ap₂, ◌∙◌}
use native.Mathlib.Nat.{add-mul, mul_assoc, one-mul}
use native.Mathlib.Numerals.{add-one}
use native.Mathlib.Omega.{arith}
use borrow.Author.Tests.{eq-eqb, ne_eqb}
use lib.ListN.{length, take, drop, get_or, set}
use lib.Pow.{pow-add}
use Rattle.std.proofs.lemmas.List.{take_more_set}
use lib.Seq.{append_snoc, drop-cons, get_or-append-add, get_or-drop, length-take-le, set_at, take_all, take-take}
use Rattle.binary.proofs.BinaryLaws.{power_made}
use Rattle.domain.specs.Domain.{point}
use Rattle.field.proofs.Laws.{mul_mod_assoc, pow_mod_add, pow_mod_mul}
use Rattle.field.specs.Modular.{add_mod, mul_mod, pow_mod, generator, subgroup_generator}
use Rattle.fold.specs.Poly.{eval, fold}
use Rattle.fold.proofs.FoldCheck.{fold-length}
use Rattle.message.proofs.Tabulate.{tabulate_snoc}
use Rattle.message.specs.Lists.{tabulate}
use Rattle.polynomial.specs.Polynomial.{layer_size, values, folded_in_place}

-- A layer's size as code has it: at most 2^30 points.
pub size_made : {r : ℕ} (n j : ℕ) → n ≤ 30 → r ≡ 2 ^ (n - j) % 2 ^ 64 → (r ≡ layer_size n j) × (r ≤ 1073741824)
unfolding layer_size
size_made n j h made =
    let m = power_made (n - j) (omega arith) made in
    (m.0, m.1.1)

-- The root of layer j is the power 2^j of the domain's, so it leads from each point of the layer to the next.
root_power : (n j : ℕ) → j ≤ n → n ≤ 30 → subgroup_generator (n - j) ≡ pow_mod (subgroup_generator n) (2 ^ j)
unfolding subgroup_generator
root_power n j h k =
    let bits : 30 - (n - j) ≡ 30 - n + j = omega arith in
    ap (λ (e : ℕ). pow_mod generator (3 * 2 ^ e)) bits
    ∙ ap (λ (e : ℕ). pow_mod generator (3 * e)) (pow-add 2 (30 - n) j)
    ∙ ap (pow_mod generator) (sym (mul_assoc 3 (2 ^ (30 - n)) (2 ^ j)))
    ∙ pow_mod_mul generator (3 * 2 ^ (30 - n)) (2 ^ j)

pub point-next : {x r : ℕ} (n j i : ℕ) → j ≤ n → n ≤ 30 → x ≡ point n j i → r ≡ subgroup_generator (n - j) → mul_mod x r ≡ point n j (i + 1)
unfolding point
point-next {x} {r} n j i h k e f =
    let more : i * 2 ^ j + 2 ^ j ≡ (i + 1) * 2 ^ j = sym (add-mul i 1 (2 ^ j) ∙ ap (λ (s : ℕ). i * 2 ^ j + s) (one-mul (2 ^ j))) in
    rw (e, f, root_power n j h k)
    (mul_mod_assoc (pow_mod generator (2 ^ j)) (pow_mod (subgroup_generator n) (i * 2 ^ j)) (pow_mod (subgroup_generator n) (2 ^ j))
    ∙ ap (mul_mod (pow_mod generator (2 ^ j))) (sym (pow_mod_add (subgroup_generator n) (i * 2 ^ j) (2 ^ j)) ∙ ap (pow_mod (subgroup_generator n)) more))

-- The values at the first i points of a layer.
unfoldable pub first_values : ℕ → ℕ → ℕ → List ℕ → List ℕ
first_values n j i f = tabulate i (λ k. eval f (point n j k))

-- A loop that stores the values one by one: a turn, and the end.
pub values_turn : {x v : ℕ} (f made : List ℕ) (n j i : ℕ) → i < length made → x ≡ point n j i → v ≡ eval (take (length f) f) x
    → take i made ≡ first_values n j i f → take (i + 1) (set made i v) ≡ first_values n j (i + 1) f
unfolding first_values
values_turn f made n j i l e q so_far =
    take_more_set made i _ l
    ∙ ap₂ (λ (y : List ℕ) (z : ℕ). y ++ (z ∷ [])) so_far (q ∙ ap₂ eval (take_all (length f) f (omega arith)) e)
    ∙ rw add-one (sym (tabulate_snoc i _))

pub values-end : (f made : List ℕ) (n j i : ℕ) → length made ≡ layer_size n j → i ≡ length made → take i made ≡ first_values n j i f → made ≡ values n j f
unfolding first_values values
values-end f made n j i l q all = sym (take_all i made (omega arith)) ∙ all ∙ ap (λ (k : ℕ). first_values n j k f) (q ∙ l)

-- The front of the front half of a room.
pub front_of_half : (room : List ℕ) (c s : ℕ) → c ≤ s → take c (take s room) ≡ take c room
front_of_half room c s h = take-take c s room h

-- The fold of the first 2·i coefficients has i, and two coefficients more append one.
front_length : (β i : ℕ) (l : List ℕ) → 2 * i ≤ length l → length (fold β (take (2 * i) l)) ≡ i
front_length β i l h = fold-length (take (2 * i) l) β i (length-take-le (2 * i) l h)

fold_more : (β i : ℕ) (l : List ℕ) → suc (2 * i) < length l
    → fold β (take (suc (suc (2 * i))) l) ≡ fold β (take (2 * i) l) ++ (add_mod (get_or l (2 * i) 0) (mul_mod β (get_or l (suc (2 * i)) 0)) ∷ [])
unfolding fold
fold_more β i [] h = absurd (omega arith)
fold_more β i (a ∷ []) h = absurd (omega arith)
fold_more β zero (a ∷ b ∷ l) h = refl
fold_more β (suc i) (a ∷ b ∷ l) h =
    let two : 2 * suc i ≡ suc (suc (2 * i)) = omega arith in
    rw two (ap (λ (r : List ℕ). add_mod a (mul_mod β b) ∷ r) (fold_more β i l (omega arith)))

-- A loop that writes the fold over the front: its start, what it has not reached yet, a turn, its end.
module _ (l : List ℕ) (β : ℕ) where
  pub fold_start : l ≡ fold β (take (2 * 0) l) ++ drop 0 l
  unfolding fold
  fold_start = refl

  fold_kept : {d : List ℕ} (i k : ℕ) → 2 * i ≤ length l → i ≤ k → d ≡ fold β (take (2 * i) l) ++ drop i l → get_or d k 0 ≡ get_or l k 0
  fold_kept i k h m e =
      let far : k ≡ length (fold β (take (2 * i) l)) + (k - i) = omega (arith, front_length β i l h) in
      let back : i + (k - i) ≡ k = omega arith in
      ap (λ (x : List ℕ). get_or x k 0) e
      ∙ ap (λ (n : ℕ). get_or (fold β (take (2 * i) l) ++ drop i l) n 0) far
      ∙ get_or-append-add (fold β (take (2 * i) l)) (drop i l) (k - i) 0
      ∙ get_or-drop i l (k - i) 0
      ∙ ap (λ (n : ℕ). get_or l n 0) back

  pub fold_turn : {d : List ℕ} {v : ℕ} (i : ℕ) → 2 * i + 1 < length l → d ≡ fold β (take (2 * i) l) ++ drop i l
      → v ≡ add_mod (get_or d (2 * i) 0) (mul_mod β (get_or d (2 * i + 1) 0)) → set d i v ≡ fold β (take (2 * (i + 1)) l) ++ drop (i + 1) l
  fold_turn {d} {v} i h e f =
      let even : get_or d (2 * i) 0 ≡ get_or l (2 * i) 0 = fold_kept i (2 * i) (omega arith) (omega arith) e in
      let odd : get_or d (2 * i + 1) 0 ≡ get_or l (suc (2 * i)) 0 = fold_kept i (2 * i + 1) (omega arith) (omega arith) e ∙ ap (λ (n : ℕ). get_or l n 0) (add-one (2 * i)) in
      let here : drop i l ≡ get_or l i 0 ∷ drop (suc i) l = drop-cons l i 0 (omega arith) in
      let two : 2 * (i + 1) ≡ suc (suc (2 * i)) = omega arith in
      ap (λ (x : List ℕ). set x i v) (e ∙ ap (λ (x : List ℕ). fold β (take (2 * i) l) ++ x) here)
      ∙ set_at (fold β (take (2 * i) l)) (get_or l i 0) (drop (suc i) l) v i (front_length β i l (omega arith))
      ∙ rw (f, even, odd, two, fold_more β i l (omega arith), append_snoc, add-one i)

  pub fold_end : {d : List ℕ} (i : ℕ) → length l % 2 ≡ 0 → i ≡ length l / 2 → d ≡ fold β (take (2 * i) l) ++ drop i l → d ≡ folded_in_place β l
  unfolding folded_in_place
  fold_end {d} i h k e =
      let all : take (2 * i) l ≡ l = take_all (2 * i) l (omega arith) in
      e ∙ rw (all, k, eq-eqb (length l % 2) 0 h)

  pub fold_none : (length l % 2 ≡ 0 → ⊥) → l ≡ folded_in_place β l
  unfolding folded_in_place
  fold_none h = rw (ne_eqb (length l % 2) 0 h)
