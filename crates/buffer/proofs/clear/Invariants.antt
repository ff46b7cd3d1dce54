use mathlib.Core.Path.{◌≡◌}
use lib.ListN.{take, replicate}
use Rattle.buffer.proofs.clear.Given as goal

abbrev pub invariant-loop-element : goal.invariant-loop-element
invariant-loop-element g l = take l.element-index l.buffer ≡ replicate l.element-index g.T.Zero.ZERO
