-- Rows of digests in lent bytes: one block more written, the row above, a row read back, and the size of a tree.
-- Assumes nothing.
use Prim.Native.Nat.{ℕ, zero, suc, ◌+◌, ◌*◌, ◌^◌, ◌/◌, ◌%◌, ◌≤◌, ◌<◌}
use mathlib.Core.List.{List, ◌∷◌, ◌++◌, append_assoc}
use mathlib.Core.Path.{◌≡◌, refl, sym, ap, ap₂, ◌∙◌}
use native.Mathlib.Nat.{one-le-pow}
use native.Mathlib.Numerals.{add-one}
use native.Mathlib.Omega.{arith}
use lib.ListN.{length, get_or, set, take, drop}
use lib.Bits.{xor_shr, xor_mod, xor_zero_r}
use lib.Seq.{sets, length-sets, take-add, drop-drop, take_at, drop_at, take-suc-set, take-take}
use Rattle.std.proofs.lemmas.List.{drop-take}
use Rattle.std.specs.Prelude.{bit_xor}
use Rattle.message.specs.Bytes.{joined, part}
use Rattle.message.specs.Message.{Digest, tagged_hash}
use Rattle.message.proofs.Bytes.{Sized, none, more, joined_length, joined_snoc}
use Rattle.sha256.specs.Sha256.{sha256}
use Rattle.sha256.proofs.HashLaws.{length-sha256}
use Rattle.merkle.specs.Merkle.{leaf_digest, node, above, digests, sibling}
use Rattle.merkle.proofs.MerkleLaws.{tagged_node}
use Rattle.merkle.proofs.Opens.{leaf_all}
use Rattle.message.specs.Lists.{tabulate}
use Rattle.message.proofs.Tabulate.{tabulate-length, tabulate_snoc, tabulate_sized}
use Rattle.buffer.specs.Buffer.{put}
use Rattle.buffer.proofs.BufferLaws.{put-fits}
use Rattle.message.proofs.Placed.{part_length, part-drop, drop-sets, sets_behind}
use Rattle.tree.specs.Tree.{tree_size, values_of, leaf_row}

-- Digests stored in l one after the other, from index at on: one digest more, and a loop's turn that puts it.
pub blocks_more : (l : List ℕ) (at n : ℕ) (g : ℕ → Digest) → ((i : ℕ) → length (g i) ≡ 32)
    → sets (sets l at (joined (tabulate n g))) (at + 32 * n) (g n) ≡ sets l at (joined (tabulate (suc n) g))
blocks_more l at n g long =
    let size : length (joined (tabulate n g)) ≡ 32 * n = joined_length (tabulate_sized 32 n g long) ∙ ap (λ (k : ℕ). 32 * k) (tabulate-length n g) in
    sets_behind l (joined (tabulate n g)) (g n) at (at + 32 * n) (omega arith)
    ∙ ap (λ (x : List ℕ). sets l at x) (sym (ap joined (tabulate_snoc n g) ∙ joined_snoc (tabulate n g) (g n)))

block-put : {d e : List ℕ} (l : List ℕ) (at to n : ℕ) (g : ℕ → Digest) → ((i : ℕ) → length (g i) ≡ 32) → to ≡ at + 32 * n → to + 32 ≤ length l
    → d ≡ sets l at (joined (tabulate n g)) → e ≡ g n → put d to e ≡ sets l at (joined (tabulate (n + 1) g))
block-put {d} {e} l at to n g long q h p r =
    let same : length d ≡ length l = ap length p ∙ length-sets l at (joined (tabulate n g)) in
    let wide : length e ≡ 32 = ap length r ∙ long n in
    put-fits d to e (omega arith) ∙ rw (p, r, q, add-one n) (blocks_more l at n g long)

-- The digests in joined bytes.
pub joined-digests : (n : ℕ) (xs : List ℕ) → joined (digests n xs) ≡ take (32 * n) xs
unfolding joined digests
joined-digests zero xs = refl
joined-digests (suc n) xs =
    let whole : 32 + 32 * n ≡ 32 * suc n = omega arith in
    ap (λ (x : List ℕ). take 32 xs ++ x) (joined-digests n (drop 32 xs)) ∙ sym (take-add 32 (32 * n) xs) ∙ ap (λ (k : ℕ). take k xs) whole

pub digests-length : (n : ℕ) (xs : List ℕ) → length (digests n xs) ≡ n
unfolding digests
digests-length zero xs = refl
digests-length (suc n) xs = ap suc (digests-length n (drop 32 xs))

digests-joined : {bs : List Digest} → Sized 32 bs → (zs : List ℕ) → digests (length bs) (joined bs ++ zs) ≡ bs
unfolding joined digests
digests-joined none zs = refl
digests-joined (more {b} {bs} e r) zs =
    rw (append_assoc b (joined bs) zs, take_at b (joined bs ++ zs) 32 e, drop_at b (joined bs ++ zs) 32 e)
    (ap (λ (x : List Digest). b ∷ x) (digests-joined r zs))

-- A row that was written is read back.
pub row_read : (l : List ℕ) (bs : List Digest) (at n : ℕ) → Sized 32 bs → length bs ≡ n → at + 32 * n ≤ length l
    → digests n (drop at (sets l at (joined bs))) ≡ bs
row_read l bs at n s e h =
    let size : length (joined bs) ≡ 32 * n = joined_length s ∙ ap (λ (k : ℕ). 32 * k) e in
    rw (drop-sets l (joined bs) at (omega arith), sym e) (digests-joined s (drop (at + length (joined bs)) l))

-- The size of a tree: two rows as long as the leaves but for one digest.
pub size_even : (d : ℕ) → tree_size d + 32 ≡ 64 * 2 ^ d
unfolding tree_size
size_even d = omega (arith, one-le-pow d 2 (omega arith))

-- A loop that copies the values of leaf m: one more.
pub values-more : (leaf values : List ℕ) (count m r : ℕ) → r < length leaf → take r leaf ≡ values_of r count values m
    → take (r + 1) (set leaf r (get_or values (m + r * count) 0)) ≡ values_of (r + 1) count values m
unfolding values_of
values-more leaf values count m r h p =
    rw (add-one r, take-suc-set leaf r _ h, p) (sym (tabulate_snoc r (λ (i : ℕ). get_or values (m + i * count) 0)))

-- The digest of leaf m of a layer, and a loop that writes them: one more, and the end.
abbrev pub leaf_at : ℕ → ℕ → ℕ → List ℕ → ℕ → Digest
leaf_at j perLeaf d values m = leaf_digest sha256 j (values_of perLeaf (2 ^ d) values m)

module _ (j perLeaf d count : ℕ) (l values : List ℕ) (all : count ≡ 2 ^ d) where
  pub leaves-more : {r e : List ℕ} (v : List ℕ) (m : ℕ) → 32 * count ≤ length l → m < count → r ≡ sets l 0 (joined (tabulate m (leaf_at j perLeaf d values)))
      → take perLeaf v ≡ values_of perLeaf count values m → e ≡ leaf_digest sha256 j (take perLeaf v)
      → put r (32 * m) e ≡ sets l 0 (joined (tabulate (m + 1) (leaf_at j perLeaf d values)))
  leaves-more v m h b p q e =
      block-put l 0 (32 * m) m (leaf_at j perLeaf d values) (λ k. leaf_all sha256 (λ x. length x ≡ 32) length-sha256 j _) (omega arith) (omega arith) p
      (e ∙ ap (leaf_digest sha256 j) (q ∙ ap (λ (k : ℕ). values_of perLeaf k values m) all))

  pub leaves-done : {r : List ℕ} (m : ℕ) → m ≡ count → r ≡ sets l 0 (joined (tabulate m (leaf_at j perLeaf d values)))
      → r ≡ sets l 0 (joined (leaf_row sha256 j perLeaf d values))
  unfolding leaf_row
  leaves-done m h p = p ∙ ap (λ (n : ℕ). sets l 0 (joined (tabulate n (leaf_at j perLeaf d values)))) (h ∙ all)

-- Node i above digests that stand one after the other.
abbrev pub pair_at : (List ℕ → Digest) → List ℕ → ℕ → Digest
pair_at hash xs i = node hash (part (64 * i) 32 xs) (part (64 * i + 32) 32 xs)

module _ (hash : List ℕ → Digest) where
  pair_next : (xs : List ℕ) (i : ℕ) → pair_at hash (drop 32 (drop 32 xs)) i ≡ pair_at hash xs (suc i)
  pair_next xs i =
      ap₂ (λ (x y : List ℕ). node hash x y)
      (ap (λ (x : List ℕ). part (64 * i) 32 x) (drop-drop 32 32 xs) ∙ part-drop (64 * i) 64 32 xs ∙ ap (λ (k : ℕ). part k 32 xs) (omega arith))
      (ap (λ (x : List ℕ). part (64 * i + 32) 32 x) (drop-drop 32 32 xs) ∙ part-drop (64 * i + 32) 64 32 xs ∙ ap (λ (k : ℕ). part k 32 xs) (omega arith))

  -- The row above, node by node.
  above_pairs : (n : ℕ) (xs : List ℕ) → above hash (digests (2 * n) xs) ≡ tabulate n (pair_at hash xs)
  unfolding above digests tabulate part
  above_pairs zero xs = refl
  above_pairs (suc n) xs =
      let twice : 2 * suc n ≡ suc (suc (2 * n)) = omega arith in
      rw twice
      (ap (λ (x : List Digest). node hash (take 32 xs) (take 32 (drop 32 xs)) ∷ x)
      (above_pairs n (drop 32 (drop 32 xs)) ∙ ap (λ (g : ℕ → Digest). tabulate n g) (λ j i. pair_next xs i j)))

-- A loop that writes the row above: a turn, and the end.
pub row_more : {d r : List ℕ} (l below : List ℕ) (i : ℕ) → 32 * i + 32 ≤ length l → d ≡ sets l 0 (joined (tabulate i (pair_at sha256 below)))
    → r ≡ node sha256 (part (64 * i) 32 below) (part (64 * i + 32) 32 below) → put d (32 * i) r ≡ sets l 0 (joined (tabulate (i + 1) (pair_at sha256 below)))
unfolding node
row_more l below i h p e = block-put l 0 (32 * i) i (pair_at sha256 below) (λ k. length-sha256 _) (omega arith) h p e

pub row_done : {d : List ℕ} (l below : List ℕ) (count i : ℕ) → i ≡ count → d ≡ sets l 0 (joined (tabulate i (pair_at sha256 below)))
    → d ≡ sets l 0 (joined (above sha256 (digests (2 * count) below)))
row_done l below count i h p = p ∙ rw (h, above_pairs sha256 count below)

-- The node above two digests that stand one after the other in a space.
pub node_parts : {r : Digest} (xs : List ℕ) (i n : ℕ) → i + 64 ≤ length xs → n ≡ 64
    → r ≡ tagged_hash 1 (take 32 (take n (drop i xs))) (drop 32 (take n (drop i xs))) → r ≡ node sha256 (part i 32 xs) (part (i + 32) 32 xs)
unfolding part
node_parts {r} xs i n h q e =
    let left : take 32 (take n (drop i xs)) ≡ take 32 (drop i xs) = take-take 32 n (drop i xs) (omega arith) in
    let right : drop 32 (take n (drop i xs)) ≡ take 32 (drop (i + 32) xs) =
    ap (λ (k : ℕ). drop 32 (take k (drop i xs))) q ∙ drop-take 32 32 (drop i xs) ∙ ap (take 32) (drop-drop 32 i xs) in
    e ∙ rw (left, right) (tagged_node _ _ (part_length i 32 xs (omega arith)) (part_length (i + 32) 32 xs (omega arith)))

-- A node's sibling is the node with the other last bit.
xor_side : (m r : ℕ) → m % 2 ≡ r → bit_xor m 1 ≡ sibling r m
unfolding sibling
xor_side m zero e =
    let upper : bit_xor m 1 / 2 ≡ m / 2 = xor_shr m 1 1 ∙ xor_zero_r (m / 2) in
    let lower : bit_xor m 1 % 2 ≡ 1 = xor_mod m 1 1 ∙ ap (λ (k : ℕ). bit_xor k 1) e in
    omega arith
xor_side m (suc zero) e =
    let upper : bit_xor m 1 / 2 ≡ m / 2 = xor_shr m 1 1 ∙ xor_zero_r (m / 2) in
    let lower : bit_xor m 1 % 2 ≡ 0 = xor_mod m 1 1 ∙ ap (λ (k : ℕ). bit_xor k 1) e in
    omega arith
xor_side m (suc (suc r)) e = absurd (omega arith)

pub xor_sibling : (m : ℕ) → bit_xor m 1 ≡ sibling (m % 2) m
xor_sibling m = xor_side m (m % 2) refl
