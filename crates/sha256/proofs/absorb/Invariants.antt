use mathlib.Core.Path.{◌≡◌}
use Rattle.sha256.specs.Sha256.{absorb, pad}
use Rattle.sha256.proofs.absorb.Given as goal

abbrev pub invariant-loop-i : goal.invariant-loop-i
invariant-loop-i l = l.h ≡ absorb (pad l.m) l.i
