-- `job::begin` meets its contract.
use Rattle.job.proofs.Laws.{begins}
use Rattle.job.proofs.begin.Goals as goal

pub returns : goal.returns
returns c = begins c.closed-reader.ensures
