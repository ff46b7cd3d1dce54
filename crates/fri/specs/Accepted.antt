-- What an accepted file is (the user's second demand): the bytes have the published layout, every opening hashes to its root, every leaf's values
-- fold to the next value under challenges worked out afresh, and every chain ends on the final polynomial. Nothing here goes through the file
-- in order; each line speaks of all queries i and all layers j.
use Rattle.std.specs.Prelude.{ℕ, suc, ◌%◌, ◌<◌, List, ◌≡◌, take}
use Rattle.params.specs.declared.Params.{Params}
use Rattle.params.specs.Parameters.{header, index_bits, depth, leaf_count}
use Rattle.message.specs.Message.{Digest}
use Rattle.domain.specs.Domain.{point}
use Rattle.merkle.specs.Merkle.{climb, leaf_digest}
use Rattle.transcript.specs.Transcript.{start, challenge, absorb_final, draw, absorbed}
use Rattle.fold.specs.Poly.{eval}
use Rattle.fold.specs.Fold.{FoldsFrom}
use Rattle.fri.specs.Encoding.{Proof, encode, HasLayout, root_at, opening_at}
use Rattle.fri.specs.Judge.{value_at}

module _ (hash : List ℕ → Digest) (p : Params) (context : List ℕ) (proof : Proof) where
  -- The challenge of layer j: the transcript after the roots of layers 0 to j.
  unfoldable pub challenge_at : ℕ → ℕ
  challenge_at j = challenge hash (absorbed hash (start hash (header p) context) (take (suc j) proof.roots))

  -- The leaf of query i in layer 0, from the transcript after all roots and the final coefficients; and in layer j. In layer 0 the drawn leaf is
  -- below the number of leaves already, so one formula serves all layers.
  unfoldable pub drawn_leaf : ℕ → ℕ
  drawn_leaf i = draw hash (absorb_final hash (absorbed hash (start hash (header p) context) proof.roots) proof.final) (index_bits p) i

  unfoldable pub leaf_at : ℕ → ℕ → ℕ
  leaf_at i j = drawn_leaf i % leaf_count p j

  -- The digest of the opened leaf of query i in layer j, and the point of its first value.
  unfoldable pub opened_leaf : ℕ → ℕ → Digest
  opened_leaf i j = leaf_digest hash j (opening_at proof i j).values

  unfoldable pub point_at : ℕ → ℕ → ℕ
  point_at i j = point p.n (depth p j) (leaf_at i j)

  -- v is the value folded from query i's values in layer j.
  unfoldable pub FoldsTo : ℕ → ℕ → ℕ → Type 0
  FoldsTo i j v = FoldsFrom (point_at i j) (challenge_at j) (opening_at proof i j).values v

  -- The value of query i in layer j + 1 at the index that layer j's leaf is there.
  unfoldable pub next_value : ℕ → ℕ → ℕ
  next_value i j = value_at p (suc j) (leaf_at i j) (opening_at proof i (suc j)).values

  pub record Holds : Type 0 where
    pub opens : (i j : ℕ) → i < p.q → j < p.k → climb hash (opened_leaf i j) (leaf_at i j) (opening_at proof i j).siblings ≡ root_at proof j
    pub folds : (i j : ℕ) → i < p.q → suc j < p.k → FoldsTo i j (next_value i j)
    pub ends : (i j : ℕ) → i < p.q → suc j ≡ p.k → FoldsTo i j (eval proof.final (point p.n (depth p (suc j)) (leaf_at i j)))

pub record Accepted (hash : List ℕ → Digest) (p : Params) (context file : List ℕ) : Type 0 where
  pub proof : Proof
  pub layout : HasLayout p proof
  pub bytes : file ≡ encode p proof
  pub holds : Holds hash p context proof
