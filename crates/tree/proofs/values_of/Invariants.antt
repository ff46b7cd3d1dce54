use mathlib.Core.Path.{◌≡◌}
use lib.ListN.{length, take}
use Rattle.tree.specs.Tree.{values_of}
use Rattle.tree.proofs.values_of.Given as goal

abbrev pub invariant-loop-r : goal.invariant-loop-r
invariant-loop-r l = record { four : length l.leaf ≡ 4; copied : take l.r l.leaf ≡ values_of l.r l.count l.values l.m }
