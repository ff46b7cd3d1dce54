use mathlib.Core.Path.{◌≡◌}
use mathlib.Core.List.{List}
use Prim.Native.Nat.{ℕ, ◌+◌, ◌-◌, ◌%◌, ◌≤◌}
use Rattle.sha256.specs.Sha256.{rounds}
use Rattle.sha256.specs.Private.{window}
use Rattle.sha256.proofs.last_rounds.Given as goal

abbrev pub invariant-loop-n : goal.invariant-loop-n
invariant-loop-n l = (l.n ≤ 16) × (l.n % 8 ≡ 0) × ((words h : List ℕ) → l.w ≡ window words 48 → l.initial.s ≡ rounds words h 48 → l.s ≡ rounds words h (48 + l.n))

abbrev pub decreases-loop-n : goal.decreases-loop-n
decreases-loop-n l = 16 - l.n
