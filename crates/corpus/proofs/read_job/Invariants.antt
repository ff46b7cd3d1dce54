-- The job was fed all bytes that came, and as many are still to come as the rest says.
use Rattle.corpus.proofs.Fed.{Fed}
use Rattle.corpus.proofs.read_job.Given as goal

abbrev pub invariant-loop-rest : goal.invariant-loop-rest
invariant-loop-rest g l = Fed (g.R.Read.remaining l.initial.input) (g.R.Read.remaining l.input) l.state l.count l.rest

abbrev pub decreases-loop-rest : goal.decreases-loop-rest
decreases-loop-rest g l = l.rest
