-- Trees in lent bytes: rows laid one behind the other, the root read from there, and the siblings of a leaf.
-- Assumes nothing.
use Prim.Native.Nat.{ℕ, zero, suc, ◌+◌, ◌*◌, ◌^◌, ◌-◌, ◌/◌, ◌%◌, ◌≤◌, ◌<◌}
use mathlib.Core.Bool.{true}
use mathlib.Core.List.{List, [], ◌∷◌, ◌++◌, append_assoc, append-nil}
use mathlib.Core.Path.{◌≡◌, refl, sym, ap, ap₂, ◌∙◌}
use native.Mathlib.Nat.{one-le-pow, pow-suc, zero-add}
use native.Mathlib.Omega.{arith}
use borrow.Author.Tests.{le-leb, eq-eqb}
use lib.ListN.{length, take, drop, length-append, length-drop, take-append-drop}
use lib.Seq.{sets, sets-eq, length-sets, length-take-le, take-add, take-take, take_all, drop-drop, drop-append-add}
use Rattle.std.proofs.lemmas.List.{drop-take, take_rest}
use Rattle.message.specs.Bytes.{joined, part}
use Rattle.message.specs.Message.{Digest}
use Rattle.message.proofs.Bytes.{Sized, joined_length, joined_at}
use Rattle.sha256.specs.Sha256.{sha256}
use Rattle.sha256.proofs.HashLaws.{length-sha256}
use Rattle.merkle.specs.Merkle.{above, digests, root_of, sibling}
use Rattle.merkle.proofs.Opens.{leaf_all, above-length, sibling-below}
use Rattle.message.proofs.Tabulate.{tabulate-length, tabulate_sized}
use Rattle.buffer.specs.Buffer.{put}
use Rattle.buffer.proofs.BufferLaws.{put-fits, put-stays}
use Rattle.message.proofs.Placed.{part_length, take_before, sets_behind}
use Rattle.tree.specs.Tree.{is_layer, tree_size, is_tree_size, leaf_row, leaves_put, rows, tree_over, root_over, siblings_in}
use Rattle.std.specs.Prelude.{bit_xor}
use Rattle.tree.proofs.TreeLaws.{joined-digests, digests-length, row_read, size_even, xor_sibling}
use Rattle.tree.proofs.Size.{above_sized}

-- What a row takes off a tree.
size_step : (d : ℕ) → tree_size (suc d) ≡ 64 * 2 ^ d + tree_size d
size_step d = omega (arith, pow-suc 2 d, size_even d, size_even (suc d))

-- One row up: its width.
pub half_width : {width : ℕ} (left d : ℕ) → left ≡ suc d → width ≡ 2 ^ left → width / 2 ≡ 2 ^ d
half_width left d h e = omega (arith, pow-suc 2 d, e ∙ ap (λ (k : ℕ). 2 ^ k) h)

-- The next row has space behind its row, and the rows above it behind that.
pub row_fits : (from left d count n : ℕ) → left ≡ suc d → count ≡ 2 ^ d → from + tree_size left ≡ n → from + 96 * count ≤ n
row_fits from left d count n h e k = omega (arith, rw h at k, size_step d, size_even d, one-le-pow d 2 (omega arith))

pub rest_fits : (from left d count n : ℕ) → left ≡ suc d → count ≡ 2 ^ d → from + tree_size left ≡ n → from + 64 * count + tree_size d ≡ n
rest_fits from left d count n h e k = omega (arith, rw h at k, size_step d)

-- A row that is written behind the row below it.
digests_front : (n : ℕ) (xs : List ℕ) → digests n (take (32 * n) xs) ≡ digests n xs
unfolding digests
digests_front zero xs = refl
digests_front (suc n) xs =
    let more : 32 * suc n ≡ 32 + 32 * n = omega arith in
    rw more (ap₂ (λ (x : Digest) (y : List Digest). x ∷ y) (take-take 32 (32 + 32 * n) xs (omega arith)) (ap (digests n) (drop-take 32 (32 * n) xs) ∙ digests_front n (drop 32 xs)))

laid_behind : (l vs : List ℕ) (k : ℕ) → k + length vs ≤ length l → take k l ++ sets (drop k l) 0 vs ≡ sets l k vs
laid_behind l vs k h =
    ap (λ (x : List ℕ). take k l ++ x)
    (sets-eq vs (drop k l) 0 (omega (arith, length-drop k l))
    ∙ ap (λ (n : ℕ). vs ++ drop n (drop k l)) (zero-add (length vs))
    ∙ ap (λ (x : List ℕ). vs ++ x) (drop-drop (length vs) k l))
    ∙ sym (append_assoc (take k l) vs (drop (k + length vs) l))
    ∙ sym (sets-eq vs l k h)

module _ {below : List ℕ} (space : List ℕ) (from count : ℕ) (fits : from + 96 * count ≤ length space) (front : below ≡ take (from + 64 * count) space) where
  abbrev lower : List ℕ
  lower = take (length below - from) (drop from below)

  lower_is : lower ≡ take (32 * (2 * count)) (drop from space)
  lower_is =
      take_rest below from
      ∙ ap (drop from) front
      ∙ drop-take from (64 * count) space
      ∙ ap (λ (k : ℕ). take k (drop from space)) (omega arith)

  pub lower_length : length lower ≡ 64 * count
  lower_length = ap length lower_is ∙ length-take-le (32 * (2 * count)) (drop from space) (omega (arith, length-drop from space)) ∙ omega arith

  pub row_laid : {back after : List ℕ} → back ≡ drop (from + 64 * count) space → after ≡ sets back 0 (joined (above sha256 (digests (2 * (length lower / 64)) lower)))
      → below ++ after ≡ sets space (from + 64 * count) (joined (above sha256 (digests (2 * count) (drop from space))))
  row_laid {back} {after} behind e =
      let half : length lower / 64 ≡ count = omega (arith, lower_length) in
      let row : List Digest = digests (2 * count) (drop from space) in
      let same : digests (2 * (length lower / 64)) lower ≡ row =
      ap₂ (λ (k : ℕ) (x : List ℕ). digests (2 * k) x) half lower_is ∙ digests_front (2 * count) (drop from space) in
      let size : length (joined (above sha256 row)) ≡ 32 * count =
      joined_length (above_sized sha256 length-sha256 row) ∙ ap (λ (k : ℕ). 32 * k) (above-length sha256 row count (digests-length (2 * count) (drop from space))) in
      ap₂ (λ (x y : List ℕ). x ++ y) front (e ∙ ap₂ (λ (x : List ℕ) (y : List Digest). sets x 0 (joined (above sha256 y))) behind same)
      ∙ laid_behind space (joined (above sha256 row)) (from + 64 * count) (omega arith)

  pub row_kept : {back after : List ℕ} → back ≡ drop (from + 64 * count) space → after ≡ sets back 0 (joined (above sha256 (digests (2 * (length lower / 64)) lower)))
      → length (below ++ after) ≡ length space
  row_kept behind e = ap length (row_laid behind e) ∙ length-sets space (from + 64 * count) (joined (above sha256 (digests (2 * count) (drop from space))))

-- A loop that writes row above row: a turn, and the end.
rows_step : (space : List ℕ) (from d count : ℕ) → count ≡ 2 ^ d → from + tree_size (suc d) ≡ length space
    → let made : List ℕ = sets space (from + 64 * count) (joined (above sha256 (digests (2 * count) (drop from space)))) in
    take (from + 64 * count) made ++ rows sha256 d (digests (2 ^ d) (drop (from + 64 * count) made))
    ≡ take from space ++ rows sha256 (suc d) (digests (2 ^ suc d) (drop from space))
unfolding rows
rows_step space from d count e h =
    let to : ℕ = from + 64 * count in
    let row : List Digest = digests (2 * count) (drop from space) in
    let made : List ℕ = sets space to (joined (above sha256 row)) in
    let double : 2 * count ≡ 2 ^ suc d = omega (arith, pow-suc 2 d) in
    let wide : 64 * count ≡ 32 * (2 * count) = omega arith in
    let front : take to made ≡ take from space ++ joined row =
    take_before space (joined (above sha256 row)) to to (omega arith)
    ∙ take-add from (64 * count) space
    ∙ ap (λ (x : List ℕ). take from space ++ x) (ap (λ (k : ℕ). take k (drop from space)) wide ∙ sym (joined-digests (2 * count) (drop from space))) in
    let behind : digests (2 ^ d) (drop to made) ≡ above sha256 row =
    ap (λ (k : ℕ). digests k (drop to made)) (sym e)
    ∙ row_read space (above sha256 row) to count (above_sized sha256 length-sha256 row) (above-length sha256 row count (digests-length (2 * count) (drop from space)))
    (omega (arith, size_step d, size_even d, one-le-pow d 2 (omega arith))) in
    ap₂ (λ (x : List ℕ) (y : List Digest). x ++ rows sha256 d y) front behind
    ∙ append_assoc (take from space) (joined row) (rows sha256 d (above sha256 row))
    ∙ ap (λ (k : ℕ). take from space ++ rows sha256 (suc d) (digests k (drop from space))) double

pub rows_turn : {made all : List ℕ} (space : List ℕ) (from left d count : ℕ) → left ≡ suc d → count ≡ 2 ^ d → from + tree_size left ≡ length space
    → made ≡ sets space (from + 64 * count) (joined (above sha256 (digests (2 * count) (drop from space))))
    → take from space ++ rows sha256 left (digests (2 ^ left) (drop from space)) ≡ all
    → take (from + 64 * count) made ++ rows sha256 d (digests (2 ^ d) (drop (from + 64 * count) made)) ≡ all
rows_turn {made} {all} space from left d count h e k p inv =
    rw p (rows_step space from d count e (rw h at k) ∙ rw h at inv)

pub rows_end : {all : List ℕ} (space : List ℕ) (from left : ℕ) → left ≡ 0 → from + tree_size left ≡ length space
    → take from space ++ rows sha256 left (digests (2 ^ left) (drop from space)) ≡ all → space ≡ all
unfolding rows tree_size
rows_end space from zero h k inv =
    sym (take-append-drop from space)
    ∙ ap (λ (x : List ℕ). take from space ++ x)
    (sym (joined-digests 1 (drop from space) ∙ take_all 32 (drop from space) (omega (arith, length-drop from space))))
    ∙ inv
rows_end space from (suc d) h k inv = absurd (omega arith)

-- The root is the last digest.
root_read : (d : ℕ) (row : List Digest) → Sized 32 row → length row ≡ 2 ^ d → part (tree_size d - 32) 32 (rows sha256 d row) ≡ root_of sha256 d row
unfolding rows root_of part tree_size
root_read zero row s e = ap (λ (x : List ℕ). take 32 x) (sym (append-nil (joined row))) ∙ joined_at s [] 0 (omega arith)
root_read (suc d) row s e =
    let on : tree_size (suc d) - 32 ≡ length (joined row) + (tree_size d - 32) =
    omega (arith, joined_length s, pow-suc 2 d, size_even d, size_even (suc d), one-le-pow d 2 (omega arith)) in
    ap (λ (x : List ℕ). take 32 x)
    (ap (λ (k : ℕ). drop k (joined row ++ rows sha256 d (above sha256 row))) on
    ∙ drop-append-add (joined row) (rows sha256 d (above sha256 row)) (tree_size d - 32))
    ∙ root_read d (above sha256 row) (above_sized sha256 length-sha256 row) (above-length sha256 row (2 ^ d) (omega (arith, pow-suc 2 d)))

-- The digests in the front of a space of the tree's size: their root, read from the end of the rows.
front_sized : (n : ℕ) (xs : List ℕ) → 32 * n ≤ length xs → Sized 32 (digests n xs)
unfolding digests
front_sized zero xs h = Sized.none
front_sized (suc n) xs h = Sized.more (length-take-le 32 xs (omega arith)) (front_sized n (drop 32 xs) (omega (arith, length-drop 32 xs)))

pub rows_root : {made : List ℕ} (space : List ℕ) (d size : ℕ) → length space ≡ tree_size d → length made ≡ tree_size d → size ≡ tree_size d
    → made ≡ rows sha256 d (digests (2 ^ d) space) → drop (size - 32) made ≡ root_of sha256 d (digests (2 ^ d) space)
unfolding part
rows_root {made} space d size h l q e =
    sym (take_all 32 (drop (size - 32) made) (omega (arith, length-drop (size - 32) made)))
    ∙ ap₂ (λ (k : ℕ) (x : List ℕ). part (k - 32) 32 x) q e
    ∙ root_read d (digests (2 ^ d) space) (front_sized (2 ^ d) space (omega (arith, size_even d, one-le-pow d 2 (omega arith)))) (digests-length (2 ^ d) space)

-- The row of a layer's leaves: its length, its digests, and reading it back.
module _ (hash : List ℕ → Digest) (size : (xs : List ℕ) → length (hash xs) ≡ 32) (j perLeaf d : ℕ) (values : List ℕ) where
  pub leaf_row_length : length (leaf_row hash j perLeaf d values) ≡ 2 ^ d
  unfolding leaf_row
  leaf_row_length = tabulate-length _ _

  pub leaf_row_sized : Sized 32 (leaf_row hash j perLeaf d values)
  unfolding leaf_row
  leaf_row_sized = tabulate_sized 32 _ _ (λ m. leaf_all hash (λ x. length x ≡ 32) size j _)

  pub leaf_row_joined : length (joined (leaf_row hash j perLeaf d values)) ≡ 32 * 2 ^ d
  leaf_row_joined = joined_length leaf_row_sized ∙ ap (λ (k : ℕ). 32 * k) leaf_row_length

  pub leaf_row_read : (space : List ℕ) → 32 * 2 ^ d ≤ length space
      → digests (2 ^ d) (sets space 0 (joined (leaf_row hash j perLeaf d values))) ≡ leaf_row hash j perLeaf d values
  leaf_row_read space h = row_read space (leaf_row hash j perLeaf d values) 0 (2 ^ d) leaf_row_sized leaf_row_length (omega arith)

-- A layer with room for its digests, or without; a tree's size.
module _ (j perLeaf d : ℕ) (values space : List ℕ) (high : d ≤ 30) (few : perLeaf ≤ 4) (full : length values ≡ perLeaf * 2 ^ d) where
  layer_yes : is_layer perLeaf d (length values) ≡ true
  unfolding is_layer
  layer_yes = rw (le-leb d 30 high, le-leb perLeaf 4 few, eq-eqb (length values) (perLeaf * 2 ^ d) full)

  pub leaves_fit : {s : List ℕ} → 32 * 2 ^ d ≤ length space → s ≡ sets space 0 (joined (leaf_row sha256 j perLeaf d values))
      → s ≡ leaves_put sha256 j perLeaf d values space
  unfolding leaves_put
  leaves_fit h e =
      rw layer_yes (e ∙ sym (put-fits space 0 _ (omega (arith, leaf_row_joined sha256 length-sha256 j perLeaf d values))))

  pub leaves_stay : length space < 32 * 2 ^ d → leaves_put sha256 j perLeaf d values space ≡ space
  unfolding leaves_put
  leaves_stay h = rw layer_yes (put-stays space 0 _ (omega (arith, leaf_row_joined sha256 length-sha256 j perLeaf d values)))

pub size_yes : (d n : ℕ) → d ≤ 30 → n ≡ tree_size d → is_tree_size d n ≡ true
unfolding is_tree_size
size_yes d n h k = rw (le-leb d 30 h, eq-eqb n (tree_size d) k)

module _ (d : ℕ) (space : List ℕ) where
  pub tree_yes : is_tree_size d (length space) ≡ true → tree_over sha256 d space ≡ rows sha256 d (digests (2 ^ d) space)
  unfolding tree_over
  tree_yes e = rw e

  pub root_yes : is_tree_size d (length space) ≡ true → root_over sha256 d space ≡ root_of sha256 d (digests (2 ^ d) space)
  unfolding root_over
  root_yes e = rw e

-- The sibling's bytes stand in what is left of the tree, and so does the row.
pub sibling-fits : (levels level index n : ℕ) → level < levels → index < 2 ^ (levels - level) → tree_size (levels - level) ≡ n → 32 * bit_xor index 1 + 32 ≤ n
sibling-fits levels level index n h b k =
    let d : ℕ = levels - (level + 1) in
    let more : levels - level ≡ suc d = omega arith in
    let below : index < 2 * 2 ^ d = omega (arith, rw more at b, pow-suc 2 d) in
    omega (arith, xor_sibling index, rw more at k, pow-suc 2 d, size_even (suc d), one-le-pow d 2 (omega arith), sibling-below index (2 ^ d) (index % 2) refl below)

pub width_fits : (left width n : ℕ) → width ≡ 2 ^ left → tree_size left ≡ n → 32 * width ≤ n
width_fits left width n e k = omega (arith, size_even left, one-le-pow left 2 (omega arith))

-- One height up: the index there, and what is left of the tree.
pub index_fits : (left d index : ℕ) → left ≡ suc d → index < 2 ^ left → index / 2 < 2 ^ d
index_fits left d index h b = omega (arith, rw h at b, pow-suc 2 d)

pub next_fits : (left d width : ℕ) (row : List ℕ) → left ≡ suc d → width ≡ 2 ^ left → tree_size left ≡ length row → tree_size d ≡ length (drop (32 * width) row)
next_fits left d width row h e k = omega (arith, rw h at k, rw h at e, pow-suc 2 d, size_step d, length-drop (32 * width) row)

-- A loop that writes sibling after sibling: a turn, and the end.
pub walk_turn : {b' all : List ℕ} (b row : List ℕ) (left d index to next s width n : ℕ) → left ≡ suc d → next ≡ to + 32 → s ≡ sibling (index % 2) index → width ≡ 2 ^ left → n ≡ 32
    → to + 32 ≤ length b → 32 * s + 32 ≤ length row → b' ≡ put b to (take n (drop (32 * s) row))
    → sets b to (siblings_in left row index) ≡ all
    → sets b' next (siblings_in d (drop (32 * width) row) (index / 2)) ≡ all
unfolding siblings_in part
walk_turn {b'} {all} b row left d index to next s width n h step e w k f g p inv =
    let one : List ℕ = part (32 * s) 32 row in
    let rest : List ℕ = siblings_in d (drop (32 * width) row) (index / 2) in
    let long : length one ≡ 32 = part_length (32 * s) 32 row g in
    let stored : b' ≡ sets b to one = p ∙ ap (λ (j : ℕ). put b to (take j (drop (32 * s) row))) k ∙ put-fits b to one (omega arith) in
    let moved : sets b to (one ++ rest) ≡ all =
    ap₂ (λ (j w : ℕ). sets b to (part (32 * j) 32 row ++ siblings_in d (drop (32 * w) row) (index / 2))) e (w ∙ ap (λ (j : ℕ). 2 ^ j) h)
    ∙ ap (λ (j : ℕ). sets b to (siblings_in j row index)) (sym h)
    ∙ inv in
    rw stored (sets_behind b one rest to next (omega (arith, step)) ∙ moved)

pub walk_end : {all : List ℕ} (b row : List ℕ) (left index to : ℕ) → left ≡ 0 → sets b to (siblings_in left row index) ≡ all → b ≡ all
unfolding siblings_in
walk_end b row zero index to h inv = inv
walk_end b row (suc d) index to h inv = absurd (omega arith)

-- A digest for each height.
pub siblings-length : (d : ℕ) (tree : List ℕ) (m : ℕ) → tree_size d ≤ length tree → m < 2 ^ d → length (siblings_in d tree m) ≡ 32 * d
unfolding siblings_in
siblings-length zero tree m h b = refl
siblings-length (suc d) tree m h b =
    let s : ℕ = sibling (m % 2) m in
    let low : s < 2 * 2 ^ d = sibling-below m (2 ^ d) (m % 2) refl (omega (arith, pow-suc 2 d)) in
    let one : length (part (32 * s) 32 tree) ≡ 32 = part_length (32 * s) 32 tree (omega (arith, pow-suc 2 d, size_even (suc d))) in
    let rest : length (siblings_in d (drop (32 * 2 ^ suc d) tree) (m / 2)) ≡ 32 * d =
    siblings-length d (drop (32 * 2 ^ suc d) tree) (m / 2)
    (omega (arith, pow-suc 2 d, size_step d, length-drop (32 * 2 ^ suc d) tree)) (omega (arith, pow-suc 2 d)) in
    length-append (part (32 * s) 32 tree) (siblings_in d (drop (32 * 2 ^ suc d) tree) (m / 2)) ∙ omega arith

-- A path that fits, and one that doesn't.
module _ (d m at : ℕ) (tree buffer : List ℕ) (size : length tree ≡ tree_size d) (leaf : m < 2 ^ d) where
  pub path_within : at + 32 * d ≤ length buffer → put buffer at (siblings_in d tree m) ≡ sets buffer at (siblings_in d tree m)
  path_within h = put-fits buffer at (siblings_in d tree m) (omega (arith, siblings-length d tree m (omega arith) leaf))

  pub path_beyond : length buffer < at + 32 * d → put buffer at (siblings_in d tree m) ≡ buffer
  path_beyond h = put-stays buffer at (siblings_in d tree m) (omega (arith, siblings-length d tree m (omega arith) leaf))
