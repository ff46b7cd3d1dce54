-- `call_lists::run_script`: what stands before the calls, part by part.
use Rattle.std.proofs.Common.{rules, arith}
use Rattle.call_lists.proofs.Running.{script_by_parts}
use Rattle.call_lists.proofs.run_script.Goals as goal

pub returns : goal.returns
returns g c =
    script_by_parts _ _ _ _ _ _ _ _ _ _ c.in-Some.header c.in-Some-2.context c.in-Some-3.count (search rules) (search rules) (search rules)
    (rw c.in-Some.is at c.in_ok-header.ensures) (rw c.in-Some-2.is at c.in_ok-context.ensures) (rw c.in-Some-3.is at c.in_ok-count.ensures)
    c.from_header-params.ensures (omega (arith, c.from_le_bytes-count.ensures)) c.run_opened.ensures
