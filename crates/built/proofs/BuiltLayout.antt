-- The built proof has the published layout: its roots and siblings are digests, its values and coefficients are below the modulus, and there
-- are as many of each as the parameters say. Assumes nothing.
use Prim.Native.Nat.{ℕ, ◌^◌, ◌-◌, ◌%◌, ◌<◌, ◌≤◌}
use mathlib.Core.List.{List, []}
use mathlib.Core.Path.{◌≡◌, ap, ◌∙◌}
use native.Mathlib.Omega.{arith}
use lib.ListN.{length, get_or}
use Rattle.message.specs.Message.{Digest}
use Rattle.params.specs.declared.Params.{Params}
use Rattle.params.specs.Parameters.{Valid, height, leaf_count, final_count}
use Rattle.params.proofs.LeafLaws.{leaf_lt}
use Rattle.merkle.proofs.Opens.{path-length, leaf_all, root_all, path_all}
use Rattle.fold.proofs.PolyLaws.{below_at}
use Rattle.fri.specs.Encoding.{IsDigest, IsOpening, HasLayout, opening_at, no_opening}
use Rattle.built.specs.Built.{leaf_of, leaves, commit, built_root, built_leaf, layer_at, opening_of, build}
use Rattle.message.proofs.Tabulate.{tabulate-length, tabulate_at}
use Rattle.built.proofs.Layers.{leaves-length, leaf-count, leaf-below, layer-length, layer_below}

-- Query i opens its leaf in layer j.
pub built_opening : (hash : List ℕ → Digest) (p : Params) (context f : List ℕ) (i j : ℕ) → i < p.q → j < p.k
    → opening_at (build hash p context f) i j ≡ opening_of hash p context f j (built_leaf hash p context f i % leaf_count p j)
unfolding build
built_opening hash p context f i j h l =
    ap (λ os. get_or os j no_opening) (tabulate_at p.q _ i [] h) ∙ tabulate_at p.k _ j no_opening l

module _
    (hash : List ℕ → Digest)
    (size : (xs : List ℕ) → length (hash xs) ≡ 32)
    (below : (xs : List ℕ) (i : ℕ) → i < 32 → get_or (hash xs) i 0 < 256)
    (p : Params) where
  -- Every hash is a digest, so each leaf is one, and so is the root over them.
  hash_digest : (xs : List ℕ) → IsDigest (hash xs)
  hash_digest xs = record { size = size xs; below = below xs }

  leaf_digest_lem : (f : List ℕ) (j m : ℕ) → m < length (leaves hash p f j) → IsDigest (get_or (leaves hash p f j) m [])
  unfolding leaves leaf_of
  leaf_digest_lem f j m h =
      let inside : m < leaf_count p j = omega (arith, tabulate-length (leaf_count p j) (leaf_of hash p f j)) in
      rw (tabulate_at (leaf_count p j) (leaf_of hash p f j) m [] inside) (leaf_all hash IsDigest hash_digest j _)

  commit_digest : (f : List ℕ) (j : ℕ) → IsDigest (commit hash p f j)
  unfolding commit
  commit_digest f j = root_all hash IsDigest hash_digest (height p j) (leaves hash p f j) (leaves-length hash p f j) (leaf_digest_lem f j)

  module _ (context f : List ℕ) where
    opening_layout : (j m : ℕ) → m < leaf_count p j → IsOpening p j (opening_of hash p context f j m)
    unfolding opening_of
    opening_layout j m h =
        let g : List ℕ = (layer_at hash p context f j).poly in
        record {
          value_count = leaf-count p g j _;
          value_below = leaf-below p g j _;
          sibling_count = path-length hash (height p j) (leaves hash p g j) m;
          sibling = path_all hash IsDigest hash_digest (height p j) (leaves hash p g j) m (leaves-length hash p g j) h (leaf_digest_lem g j);
        }

    pub built_layout : Valid p → length f ≤ 2 ^ (p.n - p.b) → HasLayout p (build hash p context f)
    unfolding build built_root final_count
    built_layout v short =
        record {
          root_count = tabulate-length _ _;
          root_digest = λ j h. rw (tabulate_at p.k (built_root hash p context f) j [] h) (commit_digest _ j);
          final_count_lem = layer-length hash p context f p.k (omega arith) short;
          final_below = λ i h. below_at (layer_below hash p context f p.k v.k_low) i;
          query_count = tabulate-length _ _;
          layer_count = λ i h. ap length (tabulate_at p.q _ i [] h) ∙ tabulate-length _ _;
          opening_form = λ i j h l. rw (built_opening hash p context f i j h l) (opening_layout j _ (leaf_lt p j _));
        }
