-- The writer's buffers after each layer hold what the built proof has there, for any hash of 32 bytes. Assumes nothing.
use Prim.Native.Nat.{ℕ, zero, suc, ◌+◌, ◌*◌, ◌^◌, ◌-◌, ◌<◌, ◌≤◌}
use mathlib.Core.Bool.{Bool, true, false}
use mathlib.Core.List.{List, [], ◌++◌, append-nil}
use mathlib.Core.Path.{◌≡◌, refl, sym, ap, ap₂, ◌∙◌, subst}
use native.Mathlib.Nat.{pow-succ', suc-mul, mul-le-mul_right}
use native.Mathlib.Omega.{arith}
use borrow.Author.Tests.{ltb-true, ltb-false}
use lib.Dec.{ltb}
use lib.ListN.{length, get_or, replicate}
use lib.Pow.{pow_mono}
use lib.Seq.{sets, length-sets}
use Rattle.params.specs.declared.Params.{Params}
use Rattle.params.specs.Parameters.{Valid, depth, values_per_leaf, height, leaf_count, root_offset}
use Rattle.message.specs.Bytes.{joined, part}
use Rattle.message.specs.Message.{Digest}
use Rattle.message.proofs.Bytes.{Sized}
use Rattle.merkle.specs.Merkle.{leaf_digest, root_of}
use Rattle.merkle.proofs.Opens.{leaf_all, root_all}
use Rattle.transcript.specs.Transcript.{absorb, challenge}
use Rattle.fold.specs.Poly.{fold}
use Rattle.fold.proofs.FoldCheck.{fold-length}
use Rattle.message.specs.Lists.{tabulate}
use Rattle.message.proofs.Tabulate.{tabulate-length, tabulate_at, tabulate-same, tabulate_sized}
use Rattle.message.proofs.Placed.{part_after, part-there, take_before, take-there}
use Rattle.polynomial.specs.Polynomial.{layer_size, values}
use Rattle.tree.specs.Tree.{values_of, leaf_row, rows, tree_size}
use Rattle.tree.proofs.TreeLaws.{blocks_more}
use Rattle.tree.proofs.Size.{rows-length}
use Rattle.built.specs.Built.{Layer, padded, leaf_values, leaf_of, leaves, commit, layer_after, layer_at, built_root}
use Rattle.built.proofs.Layers.{leaves-length, layer-length}
use Rattle.writer_model.specs.Buffers.{Buffers, poly_in, values_in, with_values, with_fold, tree_start, tree_in, root_in, committed, layered, all_layered, begun}
use Rattle.writer_model.proofs.Represents.{Represents}

-- A layer is twice as large as the next one, and at least twice as large as each later one.
halves : (n j : ℕ) → j < n → 2 ^ (n - j) ≡ 2 * 2 ^ (n - suc j)
halves n j h = ap (λ e. 2 ^ e) (omega arith) ∙ pow-succ' 2 (n - suc j)

layers_apart : (n i j : ℕ) → i < j → j ≤ n → 2 * 2 ^ (n - j) ≤ 2 ^ (n - i)
layers_apart n i j h l =
    let later : 2 ^ (n - j) ≤ 2 ^ (n - suc i) = pow_mono (omega arith) in
    omega (arith, halves n i (omega arith))

-- A layer has as many points as its leaves have values, and value r of leaf m is one of them.
pub layer-leaves : (p : Params) (j : ℕ) → j < p.n → layer_size p.n (depth p j) ≡ values_per_leaf p * leaf_count p j
unfolding layer_size
layer-leaves p j h = halves p.n j h

pub index_lt : (p : Params) (j m r : ℕ) → j < p.n → m < leaf_count p j → r < values_per_leaf p → m + r * leaf_count p j < layer_size p.n (depth p j)
index_lt p j m r h l k =
    omega (arith, layer-leaves p j h, mul-le-mul_right {m = suc r} {n = values_per_leaf p} (leaf_count p j) k, suc-mul r (leaf_count p j))

-- What holds below j and at j holds below j + 1.
one_more : (P : ℕ → Type 0) (j : ℕ) → ((i : ℕ) → i < j → P i) → P j → (i : ℕ) → i < suc j → P i
one_more P j below last i h = go (ltb i j) refl
  where
    go : (b : Bool) → ltb i j ≡ b → P i
    go true t = below i (ltb-true i j t)
    go false t = let same : j ≡ i = omega (arith, ltb-false i j t) in subst P same last

-- The steps keep the lengths of the buffers.
module _ (p : Params) (hash : List ℕ → Digest) where
  pub numbers-length : (j : ℕ) (w : Buffers) → length (all_layered p hash j w).numbers ≡ length w.numbers
  unfolding all_layered layered committed with_values with_fold
  numbers-length zero w = refl
  numbers-length (suc j) w = simp length-sets (numbers-length j w)

  pub bytes-length : (j : ℕ) (w : Buffers) → length (all_layered p hash j w).bytes ≡ length w.bytes
  unfolding all_layered layered committed
  bytes-length zero w = refl
  bytes-length (suc j) w = simp length-sets (bytes-length j w)

  pub file-length : (j : ℕ) (w : Buffers) → length (all_layered p hash j w).file ≡ length w.file
  unfolding all_layered layered committed
  file-length zero w = refl
  file-length (suc j) w = simp length-sets (file-length j w)

  -- So does the start.
  module _ (context f numbers bytes file : List ℕ) where
    pub numbers-begun : length (begun p hash context f numbers bytes file).numbers ≡ length numbers
    unfolding begun
    numbers-begun = length-sets numbers 0 f

    pub bytes-begun : length (begun p hash context f numbers bytes file).bytes ≡ length bytes
    unfolding begun
    bytes-begun = refl

pub values_length : (n j : ℕ) (g : List ℕ) → length (values n j g) ≡ layer_size n j
unfolding values
values_length n j g = tabulate-length _ _

-- A polynomial with all its coefficients needs no more.
padded_full : (size : ℕ) (f : List ℕ) → length f ≡ size → padded size f ≡ f
unfolding padded
padded_full size f e =
    let none : size - length f ≡ 0 = omega arith in
    ap (λ k. f ++ replicate k 0) none ∙ append-nil f

module _ (hash : List ℕ → Digest) (p : Params) (g : List ℕ) (j : ℕ) where
  -- The leaves over a layer's values are the ones of its polynomial.
  pub leaf_row_lem : j < p.n → leaf_row hash j (values_per_leaf p) (height p j) (values p.n j g) ≡ leaves hash p g j
  unfolding leaf_row values_of leaves leaf_of leaf_values values
  leaf_row_lem h =
      tabulate-same (leaf_count p j) _ _
      (λ m l. ap (leaf_digest hash j)
      (tabulate-same (values_per_leaf p) _ _ (λ r k. tabulate_at (layer_size p.n j) _ (m + r * leaf_count p j) 0 (index_lt p j m r h l k))))

  -- Leaves and roots are digests, so the tree has its size.
  module _ (size : (xs : List ℕ) → length (hash xs) ≡ 32) where
    leaves_sized : Sized 32 (leaves hash p g j)
    unfolding leaves leaf_of
    leaves_sized = tabulate_sized 32 _ _ (λ m. leaf_all hash (λ x. length x ≡ 32) size j _)

    pub tree_length : length (rows hash (height p j) (leaves hash p g j)) ≡ tree_size (height p j)
    tree_length = rows-length hash size (height p j) (leaves hash p g j) (leaves-length hash p g j) leaves_sized

    pub leaf-length : (m : ℕ) → m < length (leaves hash p g j) → length (get_or (leaves hash p g j) m []) ≡ 32
    unfolding leaves leaf_of
    leaf-length m h =
        ap length (tabulate_at (leaf_count p j) (leaf_of hash p g j) m [] (omega (arith, tabulate-length (leaf_count p j) (leaf_of hash p g j))))
        ∙ leaf_all hash (λ x. length x ≡ 32) size j _

    pub commit-length : length (commit hash p g j) ≡ 32
    unfolding commit
    commit-length = root_all hash (λ d. length d ≡ 32) size (height p j) (leaves hash p g j) (leaves-length hash p g j) leaf-length

-- A layer's evaluation puts its values, and leaves the polynomial and the values before.
module _ (p : Params) (v : Valid p) (j : ℕ) (h : j < p.k) (g ns : List ℕ) (e : poly_in p j ns ≡ g) (long : 2 * 2 ^ p.n ≤ length ns) where
  abbrev next : List ℕ
  next = with_values p j ns

  kept_poly : poly_in p j next ≡ g
  unfolding with_values poly_in layer_size
  kept_poly = take_before ns (values p.n j (poly_in p j ns)) (2 ^ (p.n - p.b - j)) (2 ^ (p.n - j)) (pow_mono (omega arith)) ∙ e

  new_values : values_in p j next ≡ values p.n j g
  unfolding with_values values_in layer_size
  new_values =
      let fits : 2 ^ (p.n - j) ≤ 2 ^ p.n = pow_mono (omega arith) in
      part-there ns (values p.n j (poly_in p j ns)) (2 ^ (p.n - j)) (2 ^ (p.n - j)) (values_length _ _ _) (omega arith)
      ∙ ap (values p.n j) e

  old_values : (i : ℕ) → i < j → values_in p i next ≡ values_in p i ns
  unfolding with_values values_in layer_size
  old_values i l =
      part_after ns (values p.n j (poly_in p j ns)) (2 ^ (p.n - i)) (2 ^ (p.n - i)) (2 ^ (p.n - j))
      (omega (arith, values_length p.n j (poly_in p j ns), layers_apart p.n i j l (omega arith)))

  -- So its tree and its root are the built ones.
  new_tree : (hash : List ℕ → Digest) → tree_in p hash j next ≡ rows hash (height p j) (leaves hash p g j)
  unfolding tree_in
  new_tree hash =
      ap (λ vs. rows hash (height p j) (leaf_row hash j (values_per_leaf p) (height p j) vs)) new_values
      ∙ ap (rows hash (height p j)) (leaf_row_lem hash p g j (omega arith))

  new_root : (hash : List ℕ → Digest) → root_in p hash j next ≡ commit hash p g j
  unfolding root_in commit
  new_root hash =
      ap (λ vs. root_of hash (height p j) (leaf_row hash j (values_per_leaf p) (height p j) vs)) new_values
      ∙ ap (root_of hash (height p j)) (leaf_row_lem hash p g j (omega arith))

  -- Its fold puts the next polynomial, and leaves all values.
  module _ (β : ℕ) (full : length g ≡ 2 ^ (p.n - p.b - j)) where
    next-length : length (fold β (poly_in p j next)) ≡ 2 ^ (p.n - p.b - suc j)
    next-length =
        fold-length _ β (2 ^ (p.n - p.b - suc j))
        (ap length kept_poly ∙ full ∙ halves (p.n - p.b) j (omega arith))

    next-poly : poly_in p (suc j) (with_fold p j β next) ≡ fold β g
    unfolding poly_in with_fold with_values
    next-poly =
        let fits : 2 ^ (p.n - p.b - suc j) ≤ 2 ^ p.n = pow_mono (omega arith) in
        take-there next (fold β (poly_in p j next)) (2 ^ (p.n - p.b - suc j)) next-length
        (omega (arith, length-sets ns (layer_size p.n j) (values p.n j (poly_in p j ns))))
        ∙ ap (fold β) kept_poly

    next-values : (i : ℕ) → i < suc j → values_in p i (with_fold p j β next) ≡ values_in p i next
    unfolding values_in with_fold layer_size
    next-values i l =
        let fits : 2 ^ (p.n - p.b - suc j) ≤ 2 ^ (p.n - i) = pow_mono (omega arith) in
        part_after next (fold β (poly_in p j next)) (2 ^ (p.n - i)) (2 ^ (p.n - i)) 0 (omega (arith, next-length))

-- A layer's tree is put behind those of later layers and in front of those of earlier ones.
module _ (p : Params) (v : Valid p) (j : ℕ) (h : j < p.k) (bs tree : List ℕ) (fits : length tree ≡ tree_size (height p j)) where
  tree_end : tree_start p j + length tree ≤ 64 * 2 ^ (p.n - j)
  unfolding tree_size layer_size
  tree_end = omega (arith, halves p.n j (omega arith))

  new_part : 64 * 2 ^ p.n ≤ length bs → part (tree_start p j) (tree_size (height p j)) (sets bs (tree_start p j) tree) ≡ tree
  new_part room =
      let less : 2 ^ (p.n - j) ≤ 2 ^ p.n = pow_mono (omega arith) in
      part-there bs tree (tree_size (height p j)) (tree_start p j) fits (omega (arith, tree_end))

  old_part : (i : ℕ) → i < j
      → part (tree_start p i) (tree_size (height p i)) (sets bs (tree_start p j) tree) ≡ part (tree_start p i) (tree_size (height p i)) bs
  unfolding layer_size
  old_part i l =
      part_after bs tree (tree_start p i) (tree_size (height p i)) (tree_start p j) (omega (arith, tree_end, layers_apart p.n i j l (omega arith)))

module _ (hash : List ℕ → Digest) (size : (xs : List ℕ) → length (hash xs) ≡ 32) (p : Params) (context f file : List ℕ) where
  abbrev layer : ℕ → Layer
  layer = layer_at hash p context f

  -- The first roots of the file, and one root more.
  root-more : (j : ℕ) → sets (sets file (root_offset 0) (joined (tabulate j (built_root hash p context f)))) (root_offset j) (built_root hash p context f j)
      ≡ sets file (root_offset 0) (joined (tabulate (suc j) (built_root hash p context f)))
  unfolding built_root
  root-more j = blocks_more file (root_offset 0) j (built_root hash p context f) (λ i. commit-length hash p (layer i).poly i size)

  -- One layer done on buffers that stand.
  pub layer_represents : Valid p → length f ≤ 2 ^ (p.n - p.b) → (j : ℕ) (w : Buffers) → j < p.k
      → 2 * 2 ^ p.n ≤ length w.numbers → 64 * 2 ^ p.n ≤ length w.bytes
      → Represents hash p context f file j w → Represents hash p context f file (suc j) (layered p hash j w)
  unfolding layered committed layer_at layer_after built_root
  layer_represents v short j w h long room s =
      record {
        poly = next-poly p v j h g w.numbers s.poly long β full ∙ ap (λ t. fold (challenge hash t) g) state;
        state = state;
        values_in_lem = λ i l.
            next-values p v j h g w.numbers s.poly long β full i l
            ∙ one_more (λ k. values_in p k next-numbers ≡ values p.n k (layer k).poly) j
            (λ k m. old_values p v j h g w.numbers s.poly long k m ∙ s.values_in_lem k m)
            (new_values p v j h g w.numbers s.poly long) i l;
        tree_in_lem = one_more (λ k. part (tree_start p k) (tree_size (height p k)) next-bytes ≡ rows hash (height p k) (leaves hash p (layer k).poly k)) j
            (λ k m. old_part p v j h w.bytes tree fits k m ∙ s.tree_in_lem k m)
            (new_part p v j h w.bytes tree fits room ∙ same);
        roots_in = ap₂ (λ bs r. sets bs (root_offset j) r) s.roots_in root ∙ root-more j;
      }
    where
      g : List ℕ
      g = (layer j).poly

      full : length g ≡ 2 ^ (p.n - p.b - j)
      full = layer-length hash p context f j (omega arith) short

      next-numbers : List ℕ
      next-numbers = with_values p j w.numbers

      tree : List ℕ
      tree = tree_in p hash j next-numbers

      same : tree ≡ rows hash (height p j) (leaves hash p g j)
      same = new_tree p v j h g w.numbers s.poly long hash

      fits : length tree ≡ tree_size (height p j)
      fits = ap length same ∙ tree_length hash p g j size

      next-bytes : List ℕ
      next-bytes = sets w.bytes (tree_start p j) tree

      root : root_in p hash j next-numbers ≡ commit hash p g j
      root = new_root p v j h g w.numbers s.poly long hash

      state : absorb hash w.state (root_in p hash j next-numbers) ≡ absorb hash (layer j).state (commit hash p g j)
      state = ap₂ (absorb hash) s.state root

      β : ℕ
      β = challenge hash (absorb hash w.state (root_in p hash j next-numbers))

module _
    (hash : List ℕ → Digest)
    (size : (xs : List ℕ) → length (hash xs) ≡ 32)
    (p : Params)
    (context f numbers bytes file : List ℕ) where
  abbrev first : Buffers
  first = begun p hash context f numbers bytes file

  -- At the start the polynomial is in front, and nothing else.
  begun_represents : Valid p → length f ≡ 2 ^ (p.n - p.b) → 2 * 2 ^ p.n ≤ length numbers → Represents hash p context f first.file 0 first
  unfolding begun poly_in layer_at tabulate joined
  begun_represents v full long =
      let fits : 2 ^ (p.n - p.b - 0) ≤ 2 ^ p.n = pow_mono (omega arith) in
      record {
        poly = take-there numbers f (2 ^ (p.n - p.b - 0)) (full ∙ ap (λ e. 2 ^ e) (omega arith)) (omega arith) ∙ sym (padded_full _ f full);
        state = refl;
        values_in_lem = λ i l. absurd (omega arith);
        tree_in_lem = λ i l. absurd (omega arith);
        roots_in = refl;
      }

  -- After the first j layers the buffers hold those layers, and the next polynomial.
  pub represents : Valid p → length f ≡ 2 ^ (p.n - p.b) → 2 * 2 ^ p.n ≤ length numbers → 64 * 2 ^ p.n ≤ length bytes
      → (j : ℕ) → j ≤ p.k → Represents hash p context f first.file j (all_layered p hash j first)
  unfolding all_layered
  represents v full long room zero h = begun_represents v full long
  represents v full long room (suc j) h =
      layer_represents hash size p context f first.file v (omega arith) j (all_layered p hash j first) (omega arith)
      (omega (arith, numbers-length p hash j first, numbers-begun p hash context f numbers bytes file))
      (omega (arith, bytes-length p hash j first, bytes-begun p hash context f numbers bytes file))
      (represents v full long room j (omega arith))
