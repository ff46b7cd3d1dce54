-- The value is that of the coefficients above the rest.
use Rattle.std.proofs.Common.{◌≡◌, ◌≤◌, length, take, drop}
use Rattle.fold.specs.Poly.{eval}
use Rattle.fold.proofs.horner.Given as goal

abbrev pub invariant-loop-rest : goal.invariant-loop-rest
invariant-loop-rest l = record {
  in_range : length l.rest ≤ length l.coefficients;
  front : l.rest ≡ take (length l.rest) l.coefficients;
  value : l.value ≡ eval (drop (length l.rest) l.coefficients) l.x;
}

abbrev pub decreases-loop-rest : goal.decreases-loop-rest
decreases-loop-rest l = length l.rest
