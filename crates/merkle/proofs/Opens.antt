-- Merkle trees over any hash: each leaf opens to the root, and what holds of every hash holds of the root and the siblings. Assumes nothing.
use Prim.Native.Nat.{ℕ, zero, suc, ◌+◌, ◌*◌, ◌^◌, ◌%◌, ◌<◌, ◌/◌}
use mathlib.Core.List.{List, [], ◌∷◌}
use mathlib.Core.Path.{◌≡◌, refl, ap, sym, ◌∙◌, ap₂}
use native.Mathlib.Nat.{pow-suc, pow-zero}
use native.Mathlib.Omega.{arith}
use lib.ListN.{length, get_or}
use Rattle.message.specs.Message.{Digest}
use Rattle.merkle.specs.Merkle.{leaf_digest, sibling, node, parent, above, root_of, path, climb}

-- A node's sibling stands in the same row.
pub sibling-below : (m k b : ℕ) → m % 2 ≡ b → m < 2 * k → sibling b m < 2 * k
unfolding sibling
sibling-below m k zero e h = omega arith
sibling-below m k (suc b) e h = omega arith

module _ (hash : List ℕ → Digest) where
  -- A leaf's digest is a hash.
  pub leaf_all : (P : Digest → Type 0) → ((xs : List ℕ) → P (hash xs)) → (j : ℕ) (values : List ℕ) → P (leaf_digest hash j values)
  unfolding leaf_digest
  leaf_all P each j values = each _

  pub above-length : (row : List Digest) (k : ℕ) → length row ≡ 2 * k → length (above hash row) ≡ k
  unfolding above
  above-length [] k e = omega arith
  above-length (l ∷ []) k e = omega arith
  above-length (l ∷ r ∷ row) zero e = omega arith
  above-length (l ∷ r ∷ row) (suc k) e = ap suc (above-length row k (omega arith))

  above_at : (row : List Digest) (k : ℕ) → 2 * k + 1 < length row → get_or (above hash row) k [] ≡ node hash (get_or row (2 * k) []) (get_or row (2 * k + 1) [])
  unfolding above
  above_at [] k h = absurd (omega arith)
  above_at (l ∷ []) k h = absurd (omega arith)
  above_at (l ∷ r ∷ row) zero h = refl
  above_at (l ∷ r ∷ row) (suc k) h =
      rw (twice, twice_one) (above_at row k (omega arith))
    where
      twice : 2 * suc k ≡ suc (suc (2 * k))
      twice = omega arith

      twice_one : suc (suc (2 * k)) + 1 ≡ suc (suc (2 * k + 1))
      twice_one = omega arith

  -- The node above node m joins it with its sibling.
  join_at : (row : List Digest) (m : ℕ) → m / 2 * 2 + 1 < length row
      → parent hash (m % 2) (get_or row m []) (get_or row (sibling (m % 2) m) []) ≡ get_or (above hash row) (m / 2) []
  unfolding parent sibling
  join_at row m h = go (m % 2) refl
    where
      go : (b : ℕ) → m % 2 ≡ b → parent hash b (get_or row m []) (get_or row (sibling b m) []) ≡ get_or (above hash row) (m / 2) []
      go zero e = ap (λ k. node hash (get_or row k []) (get_or row (k + 1) [])) (omega arith) ∙ sym (above_at row (m / 2) (omega arith))
      go (suc b) e = ap₂ (λ i k. node hash (get_or row i []) (get_or row k [])) (omega arith) (omega arith) ∙ sym (above_at row (m / 2) (omega arith))

  -- Opening leaf m with its path gives the root, at every height.
  pub opens : (d : ℕ) (row : List Digest) (m : ℕ) → length row ≡ 2 ^ d → m < 2 ^ d → climb hash (get_or row m []) m (path hash d row m) ≡ root_of hash d row
  unfolding climb path root_of
  opens zero row m e h = ap (λ k. get_or row k []) (omega (arith, pow-zero 2))
  opens (suc d) row m e h =
      ap (λ c. climb hash c (m / 2) (path hash d (above hash row) (m / 2))) (join_at row m (omega (arith, pow-suc 2 d)))
      ∙ opens d (above hash row) (m / 2) (above-length row (2 ^ d) (omega (arith, pow-suc 2 d))) (omega (arith, pow-suc 2 d))

  pub path-length : (d : ℕ) (row : List Digest) (m : ℕ) → length (path hash d row m) ≡ d
  unfolding path
  path-length zero row m = refl
  path-length (suc d) row m = ap suc (path-length d (above hash row) (m / 2))

  -- What holds of every hash and of the leaves holds of the root and of each sibling.
  module _ (P : Digest → Type 0) (every : (xs : List ℕ) → P (hash xs)) where
    pub above_all : (row : List Digest) (i : ℕ) → i < length (above hash row) → P (get_or (above hash row) i [])
    unfolding above node
    above_all [] i h = absurd (omega arith)
    above_all (l ∷ []) i h = absurd (omega arith)
    above_all (l ∷ r ∷ row) zero h = every _
    above_all (l ∷ r ∷ row) (suc i) h = above_all row i (omega arith)

    pub root_all : (d : ℕ) (row : List Digest) → length row ≡ 2 ^ d → ((i : ℕ) → i < length row → P (get_or row i [])) → P (root_of hash d row)
    unfolding root_of
    root_all zero row e f = f 0 (omega (arith, pow-zero 2))
    root_all (suc d) row e f = root_all d (above hash row) (above-length row (2 ^ d) (omega (arith, pow-suc 2 d))) (above_all row)

    pub path_all : (d : ℕ) (row : List Digest) (m : ℕ) → length row ≡ 2 ^ d → m < 2 ^ d → ((i : ℕ) → i < length row → P (get_or row i []))
        → (h : ℕ) → h < d → P (get_or (path hash d row m) h [])
    unfolding path
    path_all zero row m e l f h b = absurd (omega arith)
    path_all (suc d) row m e l f zero b =
        f (sibling (m % 2) m) (omega (arith, pow-suc 2 d, sibling-below m (2 ^ d) (m % 2) refl (omega (arith, pow-suc 2 d))))
    path_all (suc d) row m e l f (suc h) b =
        path_all d (above hash row) (m / 2) (above-length row (2 ^ d) (omega (arith, pow-suc 2 d))) (omega (arith, pow-suc 2 d)) (above_all row)
        h (omega arith)
