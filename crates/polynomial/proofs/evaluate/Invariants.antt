use mathlib.Core.Path.{◌≡◌}
use lib.ListN.{take}
use Rattle.domain.specs.Domain.{point}
use Rattle.polynomial.proofs.PolynomialLaws.{first_values}
use Rattle.polynomial.proofs.evaluate.Given as goal

abbrev pub invariant-loop-value : goal.invariant-loop-value
invariant-loop-value l = record {
  at_the_point : l.x ≡ point l.n l.layer l.value-index;
  stored : take l.value-index l.value-items ≡ first_values l.n l.layer l.value-index l.polynomial;
}
