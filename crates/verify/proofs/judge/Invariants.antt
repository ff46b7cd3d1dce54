-- The job was fed all bytes that came.
use Rattle.job.proofs.Fed.{Fed}
use Rattle.verify.proofs.judge.Given as goal

abbrev pub invariant-loop : goal.invariant-loop
invariant-loop g l = Fed (g.R.Read.remaining l.initial.input) (g.R.Read.remaining l.input) l.state
