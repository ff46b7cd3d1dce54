-- A Merkle tree in lent bytes: the digests of a layer's leaves, the tree over digests, whose rows stand one after the other with the root last, and
-- the path of a leaf read from there.
use Rattle.std.specs.Prelude.{ℕ, zero, suc, ◌+◌, ◌*◌, ◌^◌, ◌-◌, ◌/◌, ◌%◌, Bool, ◌&&◌, cond, List, [], ◌++◌, eqb, leb, ltb, length, drop, get_or, replicate}
use Rattle.message.specs.Bytes.{joined, part}
use Rattle.message.specs.Message.{Digest}
use Rattle.merkle.specs.Merkle.{leaf_digest, digests, above, root_of, sibling}
use Rattle.message.specs.Lists.{tabulate}
use Rattle.buffer.specs.Buffer.{put}

-- The values of leaf m, where so many leaves have so many values each: value r stands r times the number of leaves behind the first.
unfoldable pub values_of : ℕ → ℕ → List ℕ → ℕ → List ℕ
values_of perLeaf leaves values m = tabulate perLeaf (λ r. get_or values (m + r * leaves) 0)

-- Whether so many values are those of 2^d leaves, each of the same number of values, at most 4.
unfoldable pub is_layer : ℕ → ℕ → ℕ → Bool
is_layer perLeaf d values = leb d 30 && (leb perLeaf 4 && eqb values (perLeaf * 2 ^ d))

-- The bytes of a tree of height d: 2·2^d − 1 digests; and whether so many bytes are a tree's of that height.
unfoldable pub tree_size : ℕ → ℕ
tree_size d = 32 * (2 * 2 ^ d - 1)

unfoldable pub is_tree_size : ℕ → ℕ → Bool
is_tree_size d n = leb d 30 && eqb n (tree_size d)

module _ (hash : List ℕ → Digest) where
  -- The digests of the 2^d leaves of layer j, over the layer's values.
  unfoldable pub leaf_row : ℕ → ℕ → ℕ → List ℕ → List Digest
  leaf_row j perLeaf d values = tabulate (2 ^ d) (λ m. leaf_digest hash j (values_of perLeaf (2 ^ d) values m))

  -- The space with these digests in its front; what is no layer or has no room stays.
  unfoldable pub leaves_put : ℕ → ℕ → ℕ → List ℕ → List ℕ → List ℕ
  leaves_put j perLeaf d values space = cond (is_layer perLeaf d (length values)) (put space 0 (joined (leaf_row j perLeaf d values))) space

  -- The tree of height d over a row of leaf digests.
  unfoldable pub rows : ℕ → List Digest → List ℕ
  rows zero row = joined row
  rows (suc d) row = joined row ++ rows d (above hash row)

  -- The space with the tree over the digests in its front, and its root; a space of another size stays, and has zeros for a root.
  unfoldable pub tree_over : ℕ → List ℕ → List ℕ
  tree_over d space = cond (is_tree_size d (length space)) (rows d (digests (2 ^ d) space)) space

  unfoldable pub root_over : ℕ → List ℕ → Digest
  root_over d space = cond (is_tree_size d (length space)) (root_of hash d (digests (2 ^ d) space)) (replicate 32 0)

-- The siblings of leaf m in the bytes of a tree of height d, from the leaf up.
unfoldable pub siblings_in : ℕ → List ℕ → ℕ → List ℕ
siblings_in zero tree m = []
siblings_in (suc d) tree m = part (32 * sibling (m % 2) m) 32 tree ++ siblings_in d (drop (32 * 2 ^ suc d) tree) (m / 2)

-- A buffer with these siblings from index at on; what is no tree, has no such leaf or has no room stays.
unfoldable pub is_path : ℕ → ℕ → ℕ → Bool
is_path d tree m = is_tree_size d tree && ltb m (2 ^ d)

unfoldable pub path_put : ℕ → List ℕ → ℕ → List ℕ → ℕ → List ℕ
path_put d tree m buffer at = cond (is_path d (length tree) m) (put buffer at (siblings_in d tree m)) buffer
