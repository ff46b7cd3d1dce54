-- The parts of the lent buffers that a layer's calls are given, and what they leave in the whole. Assumes nothing.
use Prim.Native.Nat.{ℕ, suc, ◌+◌, ◌*◌, ◌^◌, ◌-◌, ◌/◌, ◌%◌, ◌≤◌, ◌<◌}
use mathlib.Core.Bool.{true}
use mathlib.Core.List.{List, ◌++◌, append_assoc}
use mathlib.Core.Path.{◌≡◌, refl, sym, ap, ap₂, ◌∙◌}
use native.Mathlib.Nat.{pow-suc}
use native.Mathlib.Omega.{arith}
use borrow.Author.Tests.{le-leb, eq-eqb}
use lib.ListN.{length, take, drop, length-drop, take-append-drop}
use lib.Pow.{pow_mono, pow_pos}
use lib.Seq.{sets, sets-eq, length-sets, length-take-le, take-take, drop-append-le, drop-drop}
use Rattle.params.specs.declared.Params.{Params}
use Rattle.params.specs.Parameters.{Valid, values_per_leaf, height, leaf_count}
use Rattle.sha256.specs.Sha256.{sha256}
use Rattle.sha256.proofs.HashLaws.{length-sha256}
use Rattle.message.specs.Bytes.{joined, part}
use Rattle.message.specs.Message.{Digest}
use Rattle.merkle.specs.Merkle.{digests, root_of}
use Rattle.fold.specs.Poly.{fold}
use Rattle.fold.proofs.FoldCheck.{fold-length}
use Rattle.polynomial.specs.Polynomial.{layer_size, values, is_room, evaluated, folded_in_place}
use Rattle.tree.specs.Tree.{tree_size, is_tree_size, leaf_row, leaves_put, rows, tree_over, root_over}
use Rattle.tree.proofs.TreeLaws.{size_even}
use Rattle.tree.proofs.Size.{rows-length}
use Rattle.tree.proofs.Rows.{leaf_row_length, leaf_row_sized, leaf_row_read, leaves_fit, size_yes, tree_yes, root_yes}
use Rattle.writer_model.specs.Buffers.{poly_in, values_in, with_values, with_fold, tree_start, tree_in, root_in}
use Rattle.writer_model.proofs.Layers.{values_length, layer-leaves}

-- A layer is no larger than the domain; its polynomial has at most as many coefficients as the layer has points, and an even number of them.
pub layer_fits : (n j : ℕ) → layer_size n j ≤ 2 ^ n
unfolding layer_size
layer_fits n j = pow_mono (omega arith)

module _ (p : Params) (j : ℕ) (v : Valid p) (h : j < p.k) where
  pub count_fits : 2 ^ (p.n - p.b - j) ≤ layer_size p.n j
  unfolding layer_size
  count_fits = pow_mono (omega arith)

  pub count_even : 2 ^ (p.n - p.b - j) ≡ 2 * 2 ^ (p.n - p.b - suc j)
  count_even = ap (λ e. 2 ^ e) (omega arith) ∙ pow-suc 2 (p.n - p.b - suc j) ∙ omega arith

  module _ (numbers : List ℕ) (long : 2 * 2 ^ p.n ≤ length numbers) where
    -- The front of a room for layer j, evaluated, and the rest.
    pub values-left : {size count : ℕ} {ys : List ℕ} → size ≡ layer_size p.n j → count ≡ 2 ^ (p.n - p.b - j)
        → ys ≡ evaluated p.n j count (take (2 * size) numbers) → ys ++ drop (2 * size) numbers ≡ with_values p j numbers
    unfolding evaluated is_room with_values poly_in
    values-left {size} {count} {ys} e f g =
        let room : ℕ = 2 * size in
        let s : ℕ = layer_size p.n j in
        let inside : 2 * s ≤ length numbers = omega (arith, layer_fits p.n j) in
        let full : length (take room numbers) ≡ 2 * s = length-take-le room numbers (omega arith) ∙ ap (λ k. 2 * k) e in
        let small : count ≤ s = omega (arith, count_fits) in
        let front : take s (take room numbers) ≡ take s numbers = take-take s room numbers (omega arith) in
        let poly : take count (take room numbers) ≡ take (2 ^ (p.n - p.b - j)) numbers = take-take count room numbers (omega arith) ∙ ap (λ k. take k numbers) f in
        let vs : List ℕ = values p.n j (take (2 ^ (p.n - p.b - j)) numbers) in
        let end : s + length vs ≡ room = omega (arith, values_length p.n j (take (2 ^ (p.n - p.b - j)) numbers)) in
        let tested : evaluated p.n j count (take room numbers) ≡ take s (take room numbers) ++ values p.n j (take count (take room numbers)) =
        rw (le-leb j p.n (omega arith), le-leb p.n 30 (omega arith), le-leb count s small, eq-eqb _ _ full) in
        ap (λ y. y ++ drop room numbers) (g ∙ tested ∙ ap₂ (λ a b. a ++ values p.n j b) front poly)
        ∙ sym (sets-eq vs numbers s (omega arith) ∙ ap (λ k. take s numbers ++ vs ++ drop k numbers) end)

    -- The front of the numbers, folded, and the rest.
    pub fold-left : {count : ℕ} {ys : List ℕ} (β : ℕ) → count ≡ 2 ^ (p.n - p.b - j)
        → ys ≡ folded_in_place β (take count numbers) → ys ++ drop count numbers ≡ with_fold p j β numbers
    unfolding folded_in_place with_fold poly_in
    fold-left {count} {ys} β f g =
        let l : List ℕ = take count numbers in
        let inside : count ≤ length numbers = omega (arith, layer_fits p.n j, count_fits) in
        let size : length l ≡ count = length-take-le count numbers inside in
        let even : length l % 2 ≡ 0 = omega (arith, count_even) in
        let half : length (fold β l) ≡ length l / 2 = fold-length l β (length l / 2) (omega arith) in
        let rest : drop (length l / 2) l ++ drop count numbers ≡ drop (length l / 2) numbers =
        sym (drop-append-le (length l / 2) l (drop count numbers) (omega arith)) ∙ ap (drop (length l / 2)) (take-append-drop count numbers) in
        let end : 0 + length (fold β l) ≡ length l / 2 = omega arith in
        let tested : folded_in_place β l ≡ fold β l ++ drop (length l / 2) l = rw (eq-eqb _ _ even) in
        ap (λ y. y ++ drop count numbers) (g ∙ tested)
        ∙ append_assoc (fold β l) (drop (length l / 2) l) (drop count numbers)
        ∙ ap (λ y. fold β l ++ y) rest
        ∙ sym (sets-eq (fold β l) numbers 0 (omega arith) ∙ ap (λ k. fold β l ++ drop k numbers) end)
        ∙ ap (λ k. sets numbers 0 (fold β (take k numbers))) f

-- An evaluation keeps the length of the numbers.
pub values_kept : {xs : List ℕ} (p : Params) (j : ℕ) (numbers : List ℕ) → xs ≡ with_values p j numbers → length xs ≡ length numbers
unfolding with_values
values_kept p j numbers e = ap length e ∙ length-sets numbers (layer_size p.n j) (values p.n j (poly_in p j numbers))

-- The leaves over a layer's values, and the tree over them.
module _ (p : Params) (j : ℕ) (v : Valid p) (h : j < p.k) (values space : List ℕ) (full : length values ≡ layer_size p.n j)
    (whole : length space ≡ tree_size (height p j)) where
  abbrev row : List Digest
  row = leaf_row sha256 j (values_per_leaf p) (height p j) values

  fits : 32 * 2 ^ height p j ≤ length space
  fits = omega (arith, size_even (height p j), pow_pos (height p j))

  leaves_in : {s : List ℕ} {per d : ℕ} → per ≡ values_per_leaf p → d ≡ height p j → s ≡ leaves_put sha256 j per d values space → s ≡ sets space 0 (joined row)
  leaves_in {s} {per} {d} a b e =
      e
      ∙ ap₂ (λ x y. leaves_put sha256 j x y values space) a b
      ∙ sym (leaves_fit j (values_per_leaf p) (height p j) values space (omega arith) (omega arith) (full ∙ layer-leaves p j (omega arith)) fits refl)

  front : {s : List ℕ} → s ≡ sets space 0 (joined row) → (is_tree_size (height p j) (length s) ≡ true) × (digests (leaf_count p j) s ≡ row)
  front {s} e = (
    size_yes (height p j) (length s) (omega arith) (ap length e ∙ length-sets space 0 (joined row) ∙ whole),
    ap (digests (leaf_count p j)) e ∙ leaf_row_read sha256 length-sha256 j (values_per_leaf p) (height p j) values space fits,
  )

  pub layer-hashed : {s t r : List ℕ} {per d : ℕ} → per ≡ values_per_leaf p → d ≡ height p j → s ≡ leaves_put sha256 j per d values space
      → r ≡ root_over sha256 d s → t ≡ tree_over sha256 d s → (r ≡ root_of sha256 (height p j) row) × (t ≡ rows sha256 (height p j) row)
  layer-hashed {s} {t} {r} {per} {d} a b e f g =
      let there = front (leaves_in a b e) in (
        f ∙ ap (λ x. root_over sha256 x s) b ∙ root_yes (height p j) s there.0 ∙ ap (root_of sha256 (height p j)) there.1,
        g ∙ ap (λ x. tree_over sha256 x s) b ∙ tree_yes (height p j) s there.0 ∙ ap (rows sha256 (height p j)) there.1,
      )

-- A layer's values and its tree, as parts of the lent buffers.
module _ (p : Params) (j : ℕ) (v : Valid p) (h : j < p.k) {size count : ℕ} (e : size ≡ layer_size p.n j) (f : count ≡ leaf_count p j) where
  abbrev bytes_to : ℕ
  bytes_to = 32 * size + 64 * count - 32 - 32 * size

  inside : size ≡ values_per_leaf p * count
  inside = e ∙ layer-leaves p j (omega arith) ∙ ap (λ k. values_per_leaf p * k) (sym f)

  wide : bytes_to ≡ tree_size (height p j)
  unfolding tree_size
  wide = omega (arith, pow_pos (height p j))

  module _ (numbers : List ℕ) (long : 2 * 2 ^ p.n ≤ length numbers) where
    pub values_here : take (2 * size - size) (drop size numbers) ≡ values_in p j numbers
    unfolding values_in part
    values_here =
        let once : 2 * size - size ≡ layer_size p.n j = omega arith in
        ap₂ (λ a b. take a (drop b numbers)) once e

    pub values_full : length (take (2 * size - size) (drop size numbers)) ≡ layer_size p.n j
    values_full = length-take-le (2 * size - size) (drop size numbers) (omega (arith, length-drop size numbers, layer_fits p.n j)) ∙ omega arith

    pub leaves_full : {per : ℕ} → per ≡ values_per_leaf p → length (take (2 * size - size) (drop size numbers)) ≡ per * count
    leaves_full a = values_full ∙ sym e ∙ inside ∙ ap (λ k. k * count) (sym a)

  module _ (bytes : List ℕ) (room : 64 * 2 ^ p.n ≤ length bytes) where
    pub tree_ends : 32 * size + 64 * count - 32 ≤ length bytes
    tree_ends = omega (arith, inside, layer_fits p.n j)

    pub tree_here : take bytes_to (drop (32 * size) bytes) ≡ part (tree_start p j) (tree_size (height p j)) bytes
    unfolding part
    tree_here = ap₂ (λ a b. take a (drop (32 * b) bytes)) wide e

    pub tree_full : length (take bytes_to (drop (32 * size) bytes)) ≡ tree_size (height p j)
    tree_full = length-take-le bytes_to (drop (32 * size) bytes) (omega (arith, length-drop (32 * size) bytes, tree_ends)) ∙ wide

    -- What was lent for the tree comes back as the tree, and the rest as it was.
    pub tree_left : {ys : List ℕ} (numbers : List ℕ) → 2 * 2 ^ p.n ≤ length numbers
        → ys ≡ rows sha256 (height p j) (leaf_row sha256 j (values_per_leaf p) (height p j) (take (2 * size - size) (drop size numbers)))
        → take (32 * size) bytes ++ (ys ++ drop bytes_to (drop (32 * size) bytes)) ≡ sets bytes (tree_start p j) (tree_in p sha256 j numbers)
    unfolding tree_in
    tree_left {ys} numbers long made =
        let full : length ys ≡ bytes_to =
        ap length made
        ∙ rows-length sha256 length-sha256 (height p j) _ (leaf_row_length sha256 length-sha256 j (values_per_leaf p) (height p j) _)
        (leaf_row_sized sha256 length-sha256 j (values_per_leaf p) (height p j) _)
        ∙ sym wide in
        ap (λ z. take (32 * size) bytes ++ (ys ++ z)) (drop-drop bytes_to (32 * size) bytes ∙ ap (λ k. drop (32 * size + k) bytes) (sym full))
        ∙ sym (append_assoc (take (32 * size) bytes) ys _)
        ∙ sym (sets-eq ys bytes (32 * size) (omega (arith, full, tree_ends, pow_pos (height p j))))
        ∙ ap₂ (λ a b. sets bytes (32 * a) b) e
        (made ∙ ap (λ xs. rows sha256 (height p j) (leaf_row sha256 j (values_per_leaf p) (height p j) xs)) (values_here numbers long))

    pub root-left : {r : Digest} (numbers : List ℕ) → 2 * 2 ^ p.n ≤ length numbers
        → r ≡ root_of sha256 (height p j) (leaf_row sha256 j (values_per_leaf p) (height p j) (take (2 * size - size) (drop size numbers))) → r ≡ root_in p sha256 j numbers
    unfolding root_in
    root-left numbers long g = g ∙ ap (λ xs. root_of sha256 (height p j) (leaf_row sha256 j (values_per_leaf p) (height p j) xs)) (values_here numbers long)
