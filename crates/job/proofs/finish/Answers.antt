-- `job::finish` meets its contract.
use Rattle.std.proofs.Common.{refl, ◌∙◌}
use Rattle.job.proofs.Laws.{ends-short, ends-whole, ends-refused}
use Rattle.job.proofs.finish.Goals as goal

pub returns-then-state-lt-HEAD_SIZE : goal.returns-then-state-lt-HEAD_SIZE
returns-then-state-lt-HEAD_SIZE c = c.at.ensures ∙ ends-short _ c.if-state-lt-HEAD_SIZE.true refl

pub returns-in-Ok : goal.returns-in-Ok
returns-in-Ok c = ends-whole _ c.if-state-lt-HEAD_SIZE.false c.from_header.ensures c.in-Ok.ensures.number c.end.ensures

pub returns-in-Err : goal.returns-in-Err
returns-in-Err c = c.at-in-Err.ensures ∙ ends-refused _ _ c.if-state-lt-HEAD_SIZE.false c.from_header.ensures c.in-Err.ensures.number
