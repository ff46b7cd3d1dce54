-- `sha256::rounds` meets its contract. The loop's invariant: n is a multiple of 8, the words are the sixteen of the schedule from word n on, and the
-- state is that after n rounds.
use mathlib.Core.Path.{◌≡◌, refl}
use Prim.Native.Nat.{◌+◌, ◌≤◌}
use native.Mathlib.Omega.{arith}
use borrow.Author.Rules.{rules}
use lib.ListN.{length}
use Rattle.sha256.specs.Sha256.{rounds, schedule}
use Rattle.sha256.proofs.RoundLaws.{window_first, schedule_extends}
use Rattle.sha256.proofs.rounds.Goals as goal

pub loop-n-init : goal.loop-n-init
unfolding rounds
loop-n-init c =
    let size : length c.args.m ≡ 16 = search rules in
    (omega arith, refl, refl, window_first c.args.m size)

pub loop-n-preserved : goal.loop-n-preserved
loop-n-preserved c =
    let start = c.loop-n in
    let m = c.args.m in
    let size : length m ≡ 16 = search rules in
    let fits : start.n + 8 ≤ 48 = omega (arith, start.invariant.0, start.invariant.1, c.loop-n-test.true) in
    let made = c.turn.ensures in (
      fits,
      omega (arith, start.invariant.1),
      made.follow (schedule m 48) _ start.invariant.3 start.invariant.2,
      made.slide (schedule m 48) (schedule_extends m size) start.invariant.3,
    )
