-- The proof built from a polynomial (document 01, "The fold"): each layer is its polynomial's values, the next polynomial is the fold, and
-- section 3 is the last one.
use Rattle.std.specs.Prelude.{ℕ, zero, suc, ◌+◌, ◌*◌, ◌-◌, ◌%◌, ◌^◌, List, ◌++◌, length, replicate}
use Rattle.params.specs.declared.Params.{Params}
use Rattle.params.specs.Parameters.{header, depth, values_per_leaf, height, leaf_count, index_bits}
use Rattle.message.specs.Message.{Digest}
use Rattle.domain.specs.Domain.{point}
use Rattle.merkle.specs.Merkle.{root_of, path, leaf_digest}
use Rattle.transcript.specs.Transcript.{start, absorb, challenge, absorb_final, draw}
use Rattle.fold.specs.Poly.{eval, fold}
use Rattle.fri.specs.Encoding.{Opening, Proof, encode}
use Rattle.message.specs.Lists.{tabulate}

-- The coefficients, with the missing ones, which are 0.
unfoldable pub padded : ℕ → List ℕ → List ℕ
padded size f = f ++ replicate (size - length f) 0

-- A layer: its polynomial, and the transcript before its root.
pub record Layer : Type 0 where
  pub poly : List ℕ
  pub state : Digest

-- The values of the polynomial f in leaf m of layer j.
unfoldable pub leaf_values : Params → List ℕ → ℕ → ℕ → List ℕ
leaf_values p f j m = tabulate (values_per_leaf p) (λ r. eval f (point p.n (depth p j) (m + r * leaf_count p j)))

module _ (hash : List ℕ → Digest) (p : Params) where
  -- The digest of leaf m of layer j of the polynomial f, all of them, and their root.
  unfoldable pub leaf_of : List ℕ → ℕ → ℕ → Digest
  leaf_of f j m = leaf_digest hash j (leaf_values p f j m)

  unfoldable pub leaves : List ℕ → ℕ → List Digest
  leaves f j = tabulate (leaf_count p j) (leaf_of f j)

  unfoldable pub commit : List ℕ → ℕ → Digest
  commit f j = root_of hash (height p j) (leaves f j)

  -- The layer after layer j.
  unfoldable pub layer_after : ℕ → Layer → Layer
  layer_after j l =
      record {
        poly = fold (challenge hash (absorb hash l.state (commit l.poly j))) l.poly;
        state = absorb hash l.state (commit l.poly j);
      }

  module _ (context f : List ℕ) where
    -- Layer j, from the polynomial f with all its coefficients.
    unfoldable pub layer_at : ℕ → Layer
    layer_at zero = record { poly = padded (2 ^ (p.n - p.b)) f; state = start hash (header p) context }
    layer_at (suc j) = layer_after j (layer_at j)

    unfoldable pub built_root : ℕ → Digest
    built_root j = commit (layer_at j).poly j

    -- Query i's leaf in layer 0, drawn after all roots and the final coefficients.
    unfoldable pub built_leaf : ℕ → ℕ
    built_leaf i = draw hash (absorb_final hash (layer_at p.k).state (layer_at p.k).poly) (index_bits p) i

    -- The opening of leaf m of layer j.
    unfoldable pub opening_of : ℕ → ℕ → Opening
    opening_of j m =
        record {
          values = leaf_values p (layer_at j).poly j m;
          siblings = path hash (height p j) (leaves (layer_at j).poly j) m;
        }

    unfoldable pub build : Proof
    build =
        record {
          roots = tabulate p.k built_root;
          final = (layer_at p.k).poly;
          queries = tabulate p.q (λ i. tabulate p.k (λ j. opening_of j (built_leaf i % leaf_count p j)));
        }

    unfoldable pub built_file : List ℕ
    built_file = encode p build
