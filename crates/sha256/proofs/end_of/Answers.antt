-- `sha256::end_of` meets its contract.
use Prim.Native.Nat.{◌-◌}
use native.Mathlib.Omega.{arith}
use lib.ListN.{length, take, drop, length-take, length-drop}
use Rattle.sha256.proofs.Padding.{end_none, end_some}
use Rattle.sha256.proofs.end_of.Goals as goal

pub returns-then-start-m : goal.returns-then-start-m
returns-then-start-m c = λ j lt.
    end_some c.args.m.now c.args.start j {r = length (take (length c.args.m.now - c.args.start) (drop c.args.start c.args.m.now))}
    (omega arith) (omega arith) (omega (arith, length-take (length c.args.m.now - c.args.start) (drop c.args.start c.args.m.now), length-drop c.args.start c.args.m.now)) c.copy_from_slice.ensures.after lt

pub returns-else-start-m : goal.returns-else-start-m
returns-else-start-m c = λ j lt. end_none c.args.m.now c.args.start j (omega arith) lt
