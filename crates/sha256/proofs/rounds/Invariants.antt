use mathlib.Core.Path.{◌≡◌}
use Prim.Native.Nat.{◌-◌, ◌%◌, ◌≤◌}
use Rattle.sha256.specs.Sha256.{rounds, schedule}
use Rattle.sha256.specs.Private.{window}
use Rattle.sha256.proofs.rounds.Given as goal

abbrev pub invariant-loop-n : goal.invariant-loop-n
invariant-loop-n l = (l.n ≤ 48) × (l.n % 8 ≡ 0) × (l.s ≡ rounds (schedule l.initial.w 48) l.initial.s l.n) × (l.w ≡ window (schedule l.initial.w 48) l.n)

abbrev pub decreases-loop-n : goal.decreases-loop-n
decreases-loop-n l = 48 - l.n
