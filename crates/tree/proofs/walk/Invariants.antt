use Prim.Native.Nat.{◌+◌, ◌*◌, ◌-◌, ◌^◌, ◌≤◌, ◌<◌}
use mathlib.Core.Path.{◌≡◌}
use lib.ListN.{length}
use lib.Seq.{sets}
use Rattle.tree.specs.Tree.{tree_size, siblings_in}
use Rattle.tree.proofs.walk.Given as goal

abbrev pub invariant-loop-level : goal.invariant-loop-level
invariant-loop-level l = let left = l.level-end - l.level in record {
  width : l.width ≡ 2 ^ left;
  inside : l.index < 2 ^ left;
  within : length l.row ≤ length l.tree;
  rest : tree_size left ≡ length l.row;
  put : sets l.buffer (l.at + 32 * l.level) (siblings_in left l.row l.index) ≡ sets l.initial.buffer l.at (siblings_in l.level-end l.tree l.m);
}
