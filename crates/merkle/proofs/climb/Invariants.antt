use mathlib.Core.Path.{◌≡◌}
use lib.ListN.{drop}
use Rattle.sha256.specs.Sha256.{sha256}
use Rattle.merkle.specs.Merkle as spec
use Rattle.merkle.proofs.climb.Given as goal

abbrev pub invariant-loop-sibling : goal.invariant-loop-sibling
invariant-loop-sibling l = spec.climb sha256 l.node l.at (drop l.sibling-index l.siblings) ≡ spec.climb sha256 l.initial.node l.index l.siblings
