-- `vectors::run_monte`: a line more, a hundred times.
use Rattle.vectors.proofs.Checkpoints.{told_more}
use Rattle.vectors.proofs.run_monte.Goals as goal

pub loop-preserved : goal.loop-preserved
loop-preserved g c = told_more _ _ _ _ _ _ _ c.loop.invariant c.checkpoint-next.ensures c.in_ok-print_digest.ensures
