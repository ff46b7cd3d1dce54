-- Numbers as bytes, low byte first, and reading parts of joined bytes back. Assumes nothing.
use Prim.Native.Nat.{ℕ, zero, suc, ◌+◌, ◌*◌, ◌^◌, ◌%◌, ◌-◌, ◌<◌, ◌≤◌, ◌/◌}
use mathlib.Core.List.{List, [], ◌∷◌, ◌++◌, append_assoc, append-nil}
use mathlib.Core.Path.{◌≡◌, refl, ap, sym, ◌∙◌, ap₂}
use native.Mathlib.Nat.{zero-add, add_comm, mul-zero, pow-suc, pow-zero, mod-eq_of_lt, mul-suc, mod-one, suc-add, zero-lt-suc, one-le-pow, div-one, div-div-eq-div-mul}
use native.Mathlib.Omega.{arith}
use lib.Arith.{mod-mul}
use lib.ListN.{length, get_or, take, drop, length-append}
use lib.Seq.{take-take, take-nil, drop-drop, drop-append-add, take_at, drop_at, drop-cons}
use Rattle.std.specs.Int.{byte_at, bytes_low_first}
use Rattle.message.specs.Bytes.{le, num, part, joined, Bytes, empty, byte}

pub le-length : (w v : ℕ) → length (le w v) ≡ w
unfolding le
le-length zero v = refl
le-length (suc w) v = ap suc (le-length w (v / 256))

pub num-le : (w v : ℕ) → num (le w v) ≡ v % 256 ^ w
unfolding le num
num-le zero v = rw (pow-zero 256) (sym (mod-one v))
num-le (suc w) v = rw (num-le w (v / 256), pow-suc 256 w, mod-mul v (one-le-pow w 256 (omega arith)) (zero-lt-suc 255)) (omega arith)

-- `to_le_bytes` writes these bytes.
low_from : (w i v : ℕ) → bytes_low_first i w v ≡ le w (v / 256 ^ i)
unfolding le
low_from zero i v = refl
low_from (suc w) i v = ap₂ (λ b bs. b ∷ bs) (at i) (low_from w (suc i) v ∙ ap (le w) next)
  where
    at : (k : ℕ) → byte_at k v ≡ v / 256 ^ k % 256
    at zero = ap (λ u. u % 256) (sym (div-one v))
    at (suc k) = refl

    next : v / 256 ^ suc i ≡ v / 256 ^ i / 256
    next = ap (λ u. v / u) (pow-suc 256 i) ∙ sym (div-div-eq-div-mul v (256 ^ i) 256)

pub low_bytes : (w v : ℕ) → bytes_low_first 0 w v ≡ le w v
low_bytes w v = low_from w 0 v ∙ ap (le w) (div-one v)

-- Writing and reading back, for a number that fits.
pub num-le-below : (w v : ℕ) → v < 256 ^ w → num (le w v) ≡ v
num-le-below w v h = num-le w v ∙ mod-eq_of_lt h

-- Reading and writing back: two files never have one meaning.
pub le-num : {bs : List ℕ} → Bytes bs → le (length bs) (num bs) ≡ bs
unfolding le num
le-num empty = refl
le-num (byte {b} {bs} h r) = ap₂ (λ u v. u ∷ v) (omega arith) (ap (λ u. le (length bs) u) (omega arith) ∙ le-num r)

-- The same where the length has a name.
pub taken-number : {w : ℕ} {bs : List ℕ} → length bs ≡ w → Bytes bs → bs ≡ le w (num bs)
taken-number {w} {bs} e h = sym (le-num h) ∙ ap (λ u. le u (num bs)) e

-- Each of some bytes is below 256, and a part of them is bytes.
pub bytes_below : {bs : List ℕ} → Bytes bs → (i : ℕ) → i < length bs → get_or bs i 0 < 256
bytes_below empty i h = absurd (omega arith)
bytes_below (byte b r) zero h = b
bytes_below (byte b r) (suc i) h = bytes_below r i (omega arith)

pub take-bytes : {xs : List ℕ} → Bytes xs → (w : ℕ) → Bytes (take w xs)
take-bytes h zero = empty
take-bytes empty (suc w) = empty
take-bytes (byte h r) (suc w) = byte h (take-bytes r w)

pub drop-bytes : {xs : List ℕ} → Bytes xs → (w : ℕ) → Bytes (drop w xs)
drop-bytes h zero = h
drop-bytes empty (suc w) = empty
drop-bytes (byte h r) (suc w) = drop-bytes r w

pub part_at : (xs ys zs : List ℕ) (i n : ℕ) → length xs ≡ i → length ys ≡ n → part i n (xs ++ (ys ++ zs)) ≡ ys
unfolding part
part_at xs ys zs i n e k = rw (drop_at xs (ys ++ zs) i e) (take_at ys zs n k)

drop-take : (j k : ℕ) (xs : List ℕ) → drop j (take (j + k) xs) ≡ take k (drop j xs)
drop-take zero k xs = rw (zero-add k)
drop-take (suc j) k [] = rw (suc-add j k) (sym (take-nil k))
drop-take (suc j) k (x ∷ xs) = rw (suc-add j k) (drop-take j k xs)

-- A part of a part.
pub part-part : (i n j m : ℕ) (xs : List ℕ) → j + m ≤ n → part j m (part i n xs) ≡ part (i + j) m xs
unfolding part
part-part i n j m xs h =
    let rest : n ≡ j + (n - j) = omega arith in
    ap (λ u. take m (drop j (take u (drop i xs)))) rest
    ∙ ap (λ u. take m u) (drop-take j (n - j) (drop i xs))
    ∙ take-take m (n - j) (drop j (drop i xs)) (omega arith)
    ∙ ap (λ u. take m u) (drop-drop j i xs)

pub data Sized (s : ℕ) : List (List ℕ) → Type 0 where
  none : Sized s []
  more : {b : List ℕ} {bs : List (List ℕ)} → length b ≡ s → Sized s bs → Sized s (b ∷ bs)

-- Blocks of one size, by their elements.
pub sized : (s : ℕ) (bs : List (List ℕ)) → ((i : ℕ) → i < length bs → length (get_or bs i []) ≡ s) → Sized s bs
sized s [] each = none
sized s (b ∷ bs) each = more (each 0 (omega arith)) (sized s bs (λ i h. each (suc i) (omega arith)))

-- Block i of blocks of one size.
pub joined_at : {s : ℕ} {bs : List (List ℕ)} → Sized s bs → (zs : List ℕ) (i : ℕ) → i < length bs → part (s * i) s (joined bs ++ zs) ≡ get_or bs i []
unfolding joined part
joined_at {s} none zs i h = absurd (omega arith)
joined_at {s} (more {b} {bs} e r) zs zero h =
    ap (λ u. take s (drop u ((b ++ joined bs) ++ zs))) (mul-zero s) ∙ ap (λ u. take s u) (append_assoc b (joined bs) zs) ∙ take_at b (joined bs ++ zs) s e
joined_at {s} (more {b} {bs} e r) zs (suc i) h =
    ap (λ u. take s u)
    (ap₂ (λ u v. drop u v) (mul-suc s i ∙ add_comm (s * i) s ∙ ap (λ u. u + s * i) (sym e)) (append_assoc b (joined bs) zs)
    ∙ drop-append-add b (joined bs ++ zs) (s * i))
    ∙ joined_at r zs i (omega arith)

pub joined_length : {s : ℕ} {bs : List (List ℕ)} → Sized s bs → length (joined bs) ≡ s * length bs
unfolding joined
joined_length {s} none = sym (mul-zero s)
joined_length {s} (more {b} {bs} e r) = length-append b (joined bs) ∙ ap₂ (λ u v. u + v) e (joined_length r) ∙ add_comm s (s * length bs) ∙ sym (mul-suc s (length bs))

-- One block more.
pub joined_snoc : (bs : List (List ℕ)) (b : List ℕ) → joined (bs ++ (b ∷ [])) ≡ joined bs ++ b
unfolding joined
joined_snoc [] b = append-nil b
joined_snoc (x ∷ bs) b = ap (λ u. x ++ u) (joined_snoc bs b) ∙ sym (append_assoc x (joined bs) b)

-- The number in n + 1 bytes from byte i on, by its first byte.
pub num_front : (d : List ℕ) (i n : ℕ) → i < length d → num (take (suc n) (drop i d)) ≡ get_or d i 0 + 256 * num (take n (drop (suc i) d))
unfolding num
num_front d i n h = rw (drop-cons d i 0 h)

-- The number in the first 4 bytes.
pub num_four : (d : List ℕ) → 4 ≤ length d → num (take 4 d) ≡ get_or d 0 0 + 256 * (get_or d 1 0 + 256 * (get_or d 2 0 + 256 * get_or d 3 0))
unfolding num
num_four d h =
    rw (num_front d 0 3 (omega arith), num_front d 1 2 (omega arith), num_front d 2 1 (omega arith), num_front d 3 0 (omega arith)) (omega arith)

-- The number in the first 8 bytes: the one in the first 4, and above it the one in the next 4.
pub num_eight : (d : List ℕ) → 8 ≤ length d
    → num (take 8 d) ≡ num (take 4 d) + 4294967296 * (get_or d 4 0 + 256 * (get_or d 5 0 + 256 * (get_or d 6 0 + 256 * get_or d 7 0)))
unfolding num
num_eight d h =
    rw (
      num_four d (omega arith),
      num_front d 0 7 (omega arith),
      num_front d 1 6 (omega arith),
      num_front d 2 5 (omega arith),
      num_front d 3 4 (omega arith),
      num_front d 4 3 (omega arith),
      num_front d 5 2 (omega arith),
      num_front d 6 1 (omega arith),
      num_front d 7 0 (omega arith),
    ) (omega arith)

-- The number in the first 2 bytes.
pub num_two : (d : List ℕ) → 2 ≤ length d → num (take 2 d) ≡ get_or d 0 0 + 256 * get_or d 1 0
unfolding num
num_two d h = rw (num_front d 0 1 (omega arith), num_front d 1 0 (omega arith)) (omega arith)
