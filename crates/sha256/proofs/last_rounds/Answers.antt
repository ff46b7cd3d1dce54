-- `sha256::last_rounds` meets its contract. The loop's invariant: n is a multiple of 8, and the state is that after 48 + n rounds, whatever schedule
-- and hash value it is.
use Prim.Native.Nat.{◌+◌, ◌≤◌}
use native.Mathlib.Omega.{arith}
use Rattle.sha256.proofs.RoundLaws.{last_eight}
use Rattle.sha256.proofs.last_rounds.Goals as goal

pub loop-n-preserved : goal.loop-n-preserved
loop-n-preserved c =
    let start = c.loop-n in
    let fits : start.n + 8 ≤ 16 = omega (arith, start.invariant.0, start.invariant.1, c.loop-n-test.true) in (
      omega (arith, fits),
      omega (arith, start.invariant.1),
      λ words h e p. last_eight _ words h start.n fits e (start.invariant.2 words h e p)
          c.round-s0.ensures
          c.round-s1.ensures
          c.round-s2.ensures
          c.round-s3.ensures
          c.round-s4.ensures
          c.round-s5.ensures
          c.round-s6.ensures
          c.round-s7.ensures,
    )
