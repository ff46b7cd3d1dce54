-- What lent buffers hold: a part that is put, and zeros that are stored turn by turn. Assumes nothing.
use Prim.Native.Nat.{ℕ, suc, ◌+◌, ◌≤◌, ◌<◌}
use mathlib.Core.List.{List, [], ◌∷◌, ◌++◌}
use mathlib.Core.Path.{◌≡◌, sym, ap, ◌∙◌}
use native.Mathlib.Nat.{add-zero}
use native.Mathlib.Numerals.{add-one}
use native.Mathlib.Omega.{arith}
use borrow.Author.Tests.{le-leb, lt-leb}
use lib.ListN.{length, take, get_or, set}
use lib.Seq.{sets, take-suc, take_all, length-take-le}
use Rattle.buffer.specs.Buffer.{put}

module _ {A : Type 0} where
  -- A part that fits is stored, and one that does not is not.
  pub put-fits : (buffer : List A) (at : ℕ) (part : List A) → at + length part ≤ length buffer → put buffer at part ≡ sets buffer at part
  unfolding put
  put-fits buffer at part h = rw (le-leb _ _ h)

  pub put-stays : (buffer : List A) (at : ℕ) (part : List A) → length buffer < at + length part → put buffer at part ≡ buffer
  unfolding put
  put-stays buffer at part h = rw (lt-leb _ _ h)

  -- Two runs of stores, one after the other, are one.
  pub sets-append : (l xs ys : List A) (at : ℕ) → sets (sets l at xs) (at + length xs) ys ≡ sets l at (xs ++ ys)
  sets-append l [] ys at = ap (λ (k : ℕ). sets l k ys) (add-zero at)
  sets-append l (x ∷ xs) ys at =
      ap (λ (k : ℕ). sets (sets (set l at x) (suc at) xs) k ys) (omega arith)
      ∙ sets-append (set l at x) xs ys (suc at)

  -- A loop that copies s into l from index at on: one element more, and the end.
  pub copy_more : {d : List A} {x : A} (y : A) (l s : List A) (at i : ℕ) → d ≡ sets l at (take i s) → i < length s → x ≡ get_or s i y
      → set d (at + i) x ≡ sets l at (take (i + 1) s)
  copy_more {d} {x} y l s at i e h is =
      let long : length (take i s) ≡ i = length-take-le i s (omega arith) in
      rw (e, add-one i, take-suc s i y h, sym is)
      (ap (λ (k : ℕ). set (sets l at (take i s)) (at + k) x) (sym long) ∙ sets-append l (take i s) (x ∷ []) at)

  pub copy_done : {d : List A} (l s : List A) (at i : ℕ) → d ≡ sets l at (take i s) → length s ≤ i → d ≡ sets l at s
  copy_done l s at i e h = e ∙ ap (λ (x : List A). sets l at x) (take_all i s h)
