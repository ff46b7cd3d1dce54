use Prim.Native.Nat.{◌*◌}
use mathlib.Core.List.{◌++◌}
use mathlib.Core.Path.{◌≡◌}
use lib.ListN.{take, drop}
use Rattle.fold.specs.Poly.{fold}
use Rattle.polynomial.proofs.fold.Given as goal

abbrev pub invariant-loop-i : goal.invariant-loop-i
invariant-loop-i l = l.poly ≡ fold l.beta (take (2 * l.i) l.initial.poly) ++ drop l.i l.initial.poly
