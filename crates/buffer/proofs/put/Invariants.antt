use mathlib.Core.Path.{◌≡◌}
use lib.ListN.{length, take}
use lib.Seq.{sets}
use Rattle.buffer.proofs.put.Given as goal

-- The first i elements are stored.
abbrev pub invariant-loop-i : goal.invariant-loop-i
invariant-loop-i g l = (length l.buffer ≡ length l.initial.buffer) × (l.buffer ≡ sets l.initial.buffer l.at (take l.i l.part))
