-- Parts of a buffer into which something was stored: what was stored, and the parts before and after it. `part i n xs` is the n elements of xs from
-- index i on, and `sets l at vs` is the list l with vs stored from index at on. Assumes nothing.
use Prim.Native.Nat.{ℕ, suc, ◌+◌, ◌-◌, ◌≤◌}
use mathlib.Core.List.{List, [], ◌∷◌, ◌++◌, append_assoc, append-nil}
use mathlib.Core.Path.{◌≡◌, refl, sym, ap, ◌∙◌}
use native.Mathlib.Omega.{arith}
use lib.ListN.{length, take, drop, set, length-drop}
use lib.Seq.{sets, sets-eq, take_at, drop_at, drop-drop, drop-length, length-take-le, take-set-le, drop-set-lt, drop-set-add}
use Rattle.message.specs.Bytes.{part}
use Rattle.buffer.proofs.BufferLaws.{sets-append}

-- A part has its length, if the list goes that far.
pub part_length : (i n : ℕ) (xs : List ℕ) → i + n ≤ length xs → length (part i n xs) ≡ n
unfolding part
part_length i n xs h = length-take-le n (drop i xs) (omega (arith, length-drop i xs))

-- A part of what is behind index j.
pub part-drop : (i j n : ℕ) (xs : List ℕ) → part i n (drop j xs) ≡ part (j + i) n xs
unfolding part
part-drop i j n xs = ap (λ (x : List ℕ). take n x) (drop-drop i j xs)

-- A part that ends where the stored one starts, or before.
set_before : (l : List ℕ) (i n k a : ℕ) → i + n ≤ k → part i n (set l k a) ≡ part i n l
unfolding part
set_before l i n k a h =
    let there : k ≡ i + (k - i) = omega arith in
    ap (λ u. take n (drop i (set l u a))) there
    ∙ ap (λ u. take n u) (drop-set-add i l (k - i) a)
    ∙ take-set-le n (drop i l) (k - i) a (omega arith)

pub part_before : (l vs : List ℕ) (i n k : ℕ) → i + n ≤ k → part i n (sets l k vs) ≡ part i n l
part_before l [] i n k h = refl
part_before l (a ∷ vs) i n k h = part_before (set l k a) vs i n (suc k) (omega arith) ∙ set_before l i n k a h

pub take_before : (l vs : List ℕ) (n k : ℕ) → n ≤ k → take n (sets l k vs) ≡ take n l
unfolding part
take_before l vs n k h = part_before l vs 0 n k (omega arith)

-- A part that starts where the stored one ends, or after.
pub part_after : (l vs : List ℕ) (i n k : ℕ) → k + length vs ≤ i → part i n (sets l k vs) ≡ part i n l
unfolding part
part_after l [] i n k h = refl
part_after l (a ∷ vs) i n k h = part_after (set l k a) vs i n (suc k) (omega arith) ∙ ap (λ u. take n u) (drop-set-lt i l k a (omega arith))

-- What is stored stands there, and behind it what stood there before.
pub drop-sets : (l vs : List ℕ) (k : ℕ) → k + length vs ≤ length l → drop k (sets l k vs) ≡ vs ++ drop (k + length vs) l
drop-sets l vs k h =
    ap (λ u. drop k u) (sets-eq vs l k h ∙ append_assoc (take k l) vs _) ∙ drop_at (take k l) _ k (length-take-le k l (omega arith))

pub part-there : (l vs : List ℕ) (n k : ℕ) → length vs ≡ n → k + n ≤ length l → part k n (sets l k vs) ≡ vs
unfolding part
part-there l vs n k e h = ap (λ u. take n u) (drop-sets l vs k (omega arith)) ∙ take_at vs _ n e

pub take-there : (l vs : List ℕ) (n : ℕ) → length vs ≡ n → n ≤ length l → take n (sets l 0 vs) ≡ vs
unfolding part
take-there l vs n e h = part-there l vs n 0 e (omega arith)

-- Two runs of stores, where the second begins at the first one's end.
pub sets_behind : (l xs ys : List ℕ) (i j : ℕ) → i + length xs ≡ j → sets (sets l i xs) j ys ≡ sets l i (xs ++ ys)
sets_behind l xs ys i j e = ap (λ k. sets (sets l i xs) k ys) (sym e) ∙ sets-append l xs ys i

-- What fills all of a list is what the list then is.
pub sets_all : (l xs : List ℕ) → length xs ≡ length l → sets l 0 xs ≡ xs
sets_all l xs h =
    let whole : 0 + length xs ≡ length l = omega arith in
    sets-eq xs l 0 (omega arith) ∙ ap (λ k. xs ++ drop k l) whole ∙ ap (λ r. xs ++ r) (drop-length l) ∙ append-nil xs
