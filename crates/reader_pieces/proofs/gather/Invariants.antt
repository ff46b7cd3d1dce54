use mathlib.Core.Path.{◌≡◌}
use lib.ListN.{take}
use lib.Seq.{sets}
use Rattle.reader_pieces.proofs.gather.Given as goal

-- The first i bytes are stored.
abbrev pub invariant-loop-i : goal.invariant-loop-i
invariant-loop-i l = l.item ≡ sets l.initial.item l.at (take l.i l.run)
