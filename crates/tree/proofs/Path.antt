-- The siblings read from a tree's bytes are the leaf's path, for any hash of 32 bytes. Assumes nothing.
use Prim.Native.Nat.{ℕ, zero, suc, ◌*◌, ◌^◌, ◌%◌, ◌<◌, ◌/◌}
use mathlib.Core.List.{List, [], ◌++◌}
use mathlib.Core.Path.{◌≡◌, refl, ap, ap₂, ◌∙◌}
use native.Mathlib.Nat.{pow-suc}
use native.Mathlib.Omega.{arith}
use lib.ListN.{length, get_or}
use lib.Seq.{drop_at}
use Rattle.message.specs.Bytes.{joined}
use Rattle.message.specs.Message.{Digest}
use Rattle.message.proofs.Bytes.{Sized, sized, joined_at, joined_length}
use Rattle.merkle.specs.Merkle.{sibling, above, path}
use Rattle.merkle.proofs.Opens.{above-length, above_all, sibling-below}
use Rattle.tree.specs.Tree.{rows, siblings_in}

-- Each height takes one digest of its row, and goes on behind the row.
pub siblings-path : (hash : List ℕ → Digest) → ((xs : List ℕ) → length (hash xs) ≡ 32) → (d : ℕ) (row : List Digest) (m : ℕ) → length row ≡ 2 ^ d
    → m < 2 ^ d → ((i : ℕ) → i < length row → length (get_or row i []) ≡ 32) → siblings_in d (rows hash d row) m ≡ joined (path hash d row m)
unfolding siblings_in rows path joined
siblings-path hash size zero row m e h each = refl
siblings-path hash size (suc d) row m e h each =
    let twice : 2 ^ suc d ≡ 2 * 2 ^ d = omega (arith, pow-suc 2 d) in
    let blocks : Sized 32 row = sized 32 row each in
    let inside : sibling (m % 2) m < length row = omega (arith, twice, sibling-below m (2 ^ d) (m % 2) refl (omega (arith, twice))) in
    ap₂ (λ u v. u ++ v) (joined_at blocks (rows hash d (above hash row)) (sibling (m % 2) m) inside)
    (ap (λ t. siblings_in d t (m / 2))
    (drop_at (joined row) (rows hash d (above hash row)) (32 * 2 ^ suc d) (joined_length blocks ∙ ap (λ n. 32 * n) e))
    ∙ siblings-path hash size d (above hash row) (m / 2) (above-length hash row (2 ^ d) (omega (arith, twice))) (omega (arith, twice))
    (above_all hash (λ x. length x ≡ 32) size row))
