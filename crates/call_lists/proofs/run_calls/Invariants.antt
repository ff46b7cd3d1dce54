-- The calls so far ran.
use Rattle.call_lists.proofs.Running.{Ran}
use Rattle.call_lists.proofs.run_calls.Given as goal

abbrev pub invariant-loop : goal.invariant-loop
invariant-loop g l =
    Ran (g.R.Read.remaining l.initial.input) (g.R.Read.remaining l.input) (g.W.Write.contents l.initial.out) (g.W.Write.contents l.out) l.fn.state l.s l.counter
