-- The built proof holds: every leaf opens to its root, every leaf's values fold to the next layer's value, and the last to the final polynomial's.
-- Assumes nothing.
use Prim.Native.Nat.{ℕ, suc, ◌+◌, ◌*◌, ◌%◌, ◌/◌, ◌<◌, ◌≤◌}
use mathlib.Core.List.{List, []}
use mathlib.Core.Path.{◌≡◌, ap, sym, ◌∙◌, subst}
use native.Mathlib.Omega.{arith}
use lib.ListN.{take}
use lib.Seq.{take_all}
use Rattle.message.specs.Message.{Digest}
use Rattle.params.specs.declared.Params.{Params}
use Rattle.params.specs.Parameters.{Valid, header, depth, values_per_leaf, height, leaf_count, index_bits}
use Rattle.params.proofs.LeafLaws.{leaves-next, leaf_lt, leaf-next, entry_lt, index_named}
use Rattle.domain.specs.Domain.{half, point}
use Rattle.domain.proofs.DomainLaws.{opposite, square}
use Rattle.merkle.specs.Merkle.{climb, path}
use Rattle.merkle.proofs.Opens.{opens}
use Rattle.transcript.specs.Transcript.{start, challenge, absorb_final, draw, absorbed}
use Rattle.fold.specs.Poly.{eval, fold}
use Rattle.fold.specs.Fold.{FoldsFrom}
use Rattle.fold.proofs.FoldCheck.{fold_check}
use Rattle.fri.specs.Encoding.{Proof, opening_at, root_at}
use Rattle.message.specs.Lists.{tabulate}
use Rattle.fri.specs.Judge.{value_at}
use Rattle.fri.specs.Accepted.{challenge_at, drawn_leaf, leaf_at, opened_leaf, point_at, FoldsTo, next_value, Holds}
use Rattle.built.specs.Built.{Layer, leaf_values, leaf_of, leaves, commit, layer_after, layer_at, built_root, built_leaf, opening_of, build}
use Rattle.message.proofs.Tabulate.{tabulate-length, tabulate_at}
use Rattle.built.proofs.Layers.{leaves-length, layer-state}
use Rattle.built.proofs.BuiltLayout.{built_opening}

-- The value that index m names, of those at its leaf, is the polynomial's value at m.
named_value : (p : Params) (j m : ℕ) (f : List ℕ) → m < values_per_leaf p * leaf_count p j
    → value_at p j m (leaf_values p f j (m % leaf_count p j)) ≡ eval f (point p.n (depth p j) m)
unfolding value_at leaf_values
named_value p j m f l =
    tabulate_at (values_per_leaf p) _ (m / leaf_count p j) 0 (entry_lt p j m l) ∙ ap (λ i. eval f (point p.n (depth p j) i)) (index_named p j m)

-- A polynomial's values in leaf m fold to its fold's value at point m of the next layer.
point-folds : (p : Params) (j m β : ℕ) (f : List ℕ) → j < p.n → p.n ≤ 30
    → FoldsFrom (point p.n (depth p j) m) β (leaf_values p f j m) (eval (fold β f) (point p.n (depth p (suc j)) m))
unfolding leaf_values tabulate half
point-folds p j m β f h l =
    let none : m + 0 * leaf_count p j ≡ m = omega arith in
    let one : m + 1 * leaf_count p j ≡ m + half p.n j = omega arith in
    rw (none, one, opposite p.n j m h l, ← square p.n j m) (fold_check f (point p.n j m) β)

-- Leaf m of a layer opens to the layer's root.
leaf-opens : (hash : List ℕ → Digest) (p : Params) (f : List ℕ) (j m : ℕ) → m < leaf_count p j
    → climb hash (leaf_of hash p f j m) m (path hash (height p j) (leaves hash p f j) m) ≡ commit hash p f j
unfolding commit leaves
leaf-opens hash p f j m h =
    ap (λ c. climb hash c m (path hash (height p j) (leaves hash p f j) m)) (sym (tabulate_at (leaf_count p j) (leaf_of hash p f j) m [] h))
    ∙ opens hash (height p j) (leaves hash p f j) m (leaves-length hash p f j) h

module _ (hash : List ℕ → Digest) (p : Params) (context f : List ℕ) where
  abbrev proof : Proof
  proof = build hash p context f

  abbrev layer : ℕ → Layer
  layer = layer_at hash p context f

  -- The challenges and the leaves that the reader works out afresh are the ones of the build.
  built_challenge : (j : ℕ) → j < p.k → challenge_at hash p context proof j ≡ challenge hash (layer (suc j)).state
  unfolding challenge_at build
  built_challenge j h = ap (challenge hash) (layer-state hash p context f p.k (suc j) h)

  built_leaf_lem : (i : ℕ) → drawn_leaf hash p context proof i ≡ built_leaf hash p context f i
  unfolding drawn_leaf build built_leaf
  built_leaf_lem i =
      ap (λ s. draw hash (absorb_final hash s (layer p.k).poly) (index_bits p) i) (all ∙ layer-state hash p context f p.k p.k (omega arith))
    where
      roots : List Digest
      roots = tabulate p.k (built_root hash p context f)

      all : absorbed hash (start hash (header p) context) roots ≡ absorbed hash (start hash (header p) context) (take p.k roots)
      all = rw (take_all p.k roots (omega (arith, tabulate-length p.k (built_root hash p context f))))

  built_opens : (i j : ℕ) → i < p.q → j < p.k
      → climb hash (opened_leaf hash p context proof i j) (leaf_at hash p context proof i j) (opening_at proof i j).siblings ≡ root_at proof j
  unfolding opened_leaf leaf_at opening_of leaf_of build built_root
  built_opens i j h l =
      rw (built_opening hash p context f i j h l, built_leaf_lem i, tabulate_at p.k (built_root hash p context f) j [] l)
      (leaf-opens hash p (layer j).poly j _ (leaf_lt p j _))

  -- Query i's values in layer j fold to the next polynomial's value at its leaf's index.
  built_folds : (i j : ℕ) → i < p.q → j < p.k → j < p.n → p.n ≤ 30
      → FoldsTo hash p context proof i j (eval (layer (suc j)).poly (point p.n (depth p (suc j)) (leaf_at hash p context proof i j)))
  unfolding FoldsTo point_at leaf_at opening_of layer_at layer_after
  built_folds i j h l m n =
      rw (built_opening hash p context f i j h l, built_challenge j l, built_leaf_lem i) (point-folds p j _ _ (layer j).poly m n)

  -- The next layer's opening names that value.
  built_next : (i j : ℕ) → i < p.q → suc j < p.k → suc j < p.n
      → next_value hash p context proof i j ≡ eval (layer (suc j)).poly (point p.n (depth p (suc j)) (leaf_at hash p context proof i j))
  unfolding next_value leaf_at opening_of
  built_next i j h l m =
      rw (built_opening hash p context f i (suc j) h l, built_leaf_lem i, ← leaf-next p j (built_leaf hash p context f i))
      (named_value p (suc j) _ (layer (suc j)).poly (omega (arith, leaves-next p j m, leaf_lt p j (built_leaf hash p context f i))))

  pub built_proof-holds : Valid p → Holds hash p context proof
  unfolding build
  built_proof-holds v =
      record {
        opens = built_opens;
        folds = λ i j h l. rw (built_next i j h l (omega arith)) (built_folds i j h (omega arith) (omega arith) (omega arith));
        ends = λ i j h e.
            subst (λ k. FoldsTo hash p context proof i j (eval (layer k).poly (point p.n (depth p (suc j)) (leaf_at hash p context proof i j)))) e
            (built_folds i j h (omega arith) (omega arith) (omega arith));
      }
