-- `call_lists::run_calls`: a call more.
use Rattle.call_lists.proofs.Running.{ran_more}
use Rattle.call_lists.proofs.run_calls.Goals as goal

pub loop-preserved : goal.loop-preserved
loop-preserved g c = ran_more _ _ _ _ _ _ _ _ _ _ c.loop.invariant (rw c.in-Some.is at c.in_ok-next.ensures)
