-- The rows of a tree fill its bytes, for any hash of 32 bytes. Assumes nothing.
use Prim.Native.Nat.{ℕ, zero, suc, ◌^◌}
use mathlib.Core.List.{List, [], ◌∷◌}
use mathlib.Core.Path.{◌≡◌, ◌∙◌}
use native.Mathlib.Nat.{pow-suc, pow-zero}
use native.Mathlib.Omega.{arith}
use lib.ListN.{length, length-append}
use Rattle.message.specs.Bytes.{joined}
use Rattle.message.specs.Message.{Digest}
use Rattle.message.proofs.Bytes.{Sized, none, more, joined_length}
use Rattle.merkle.specs.Merkle.{above, node}
use Rattle.merkle.proofs.Opens.{above-length}
use Rattle.tree.specs.Tree.{tree_size, rows}

module _ (hash : List ℕ → Digest) (size : (xs : List ℕ) → length (hash xs) ≡ 32) where
  -- Nodes are digests.
  pub above_sized : (row : List Digest) → Sized 32 (above hash row)
  unfolding above node
  above_sized [] = none
  above_sized (l ∷ []) = none
  above_sized (l ∷ r ∷ row) = more (size _) (above_sized row)

  pub rows-length : (d : ℕ) (row : List Digest) → length row ≡ 2 ^ d → Sized 32 row → length (rows hash d row) ≡ tree_size d
  unfolding rows tree_size
  rows-length zero row e s = joined_length s ∙ omega (arith, pow-zero 2)
  rows-length (suc d) row e s =
      length-append (joined row) _
      ∙ omega (
        arith,
        pow-suc 2 d,
        joined_length s,
        rows-length d (above hash row) (above-length hash row (2 ^ d) (omega (arith, pow-suc 2 d))) (above_sized row),
      )
