-- `job::settled` meets its contract.
use Rattle.job.proofs.Laws.{settled_by, unsettled}
use Rattle.job.proofs.settled.Goals as goal

pub returns-then-state-ge-HEAD_SIZE : goal.returns-then-state-ge-HEAD_SIZE
returns-then-state-ge-HEAD_SIZE c = settled_by _ c.if-state-ge-HEAD_SIZE.true c.is_stopped.ensures

pub returns-else-state-ge-HEAD_SIZE : goal.returns-else-state-ge-HEAD_SIZE
returns-else-state-ge-HEAD_SIZE c = unsettled _ c.if-state-ge-HEAD_SIZE.false
