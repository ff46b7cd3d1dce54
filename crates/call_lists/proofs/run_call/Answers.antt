-- `call_lists::run_call`: the length, and the piece's bytes behind it.
use Rattle.std.proofs.Common.{rules, arith}
use Rattle.call_lists.proofs.Running.{call_by_piece}
use Rattle.call_lists.proofs.run_call.Goals as goal

pub returns : goal.returns
returns g c =
    call_by_piece _ _ _ _ _ _ _ _ _ (rw c.in-Some.is at c.in_ok-size.ensures) (search rules) (omega (arith, c.from_le_bytes-len.ensures)) (search rules)
    c.run_piece.ensures
