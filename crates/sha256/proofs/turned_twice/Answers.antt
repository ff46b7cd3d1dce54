-- `sha256::turned_twice` meets its contract: its one rotation of two words is two of one.
use Prim.Native.Nat.{◌-◌, ◌+◌}
use native.Mathlib.Omega.{arith}
use Rattle.sha256.proofs.Rotation.{rotr_both, rotate_is}
use Rattle.sha256.proofs.turned_twice.Goals as goal

pub returns : goal.returns
returns c =
    rw (c.rotate_right-2.ensures, c.rotate_right.ensures, rotate_is c.args.x c.args.q (omega arith) (omega arith), rotate_is _ c.args.p (omega arith) (omega arith))
    (rotr_both c.args.p c.args.q (32 - (c.args.p + c.args.q)) c.args.x (omega arith) (omega arith))
