use Prim.Native.Nat.{◌+◌, ◌-◌, ◌^◌}
use mathlib.Core.List.{◌++◌}
use mathlib.Core.Path.{◌≡◌}
use lib.ListN.{length, take, drop}
use Rattle.sha256.specs.Sha256.{sha256}
use Rattle.merkle.specs.Merkle.{digests}
use Rattle.tree.specs.Tree.{tree_size, rows}
use Rattle.tree.proofs.hash_rows.Given as goal

abbrev pub invariant-loop : goal.invariant-loop
invariant-loop l = let left = l.end - l.counter in record {
  width : l.count ≡ 2 ^ left;
  room : l.from + tree_size left ≡ length l.space;
  laid : take l.from l.space ++ rows sha256 left (digests (2 ^ left) (drop l.from l.space)) ≡ rows sha256 l.end (digests (2 ^ l.end) l.initial.space);
}
