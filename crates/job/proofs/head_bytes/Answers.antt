-- `job::head_bytes` meets its contract: no byte, the last bytes of the head, or others of it.
use Rattle.std.proofs.Common.{rules}
use Rattle.job.proofs.Laws.{none_fed, head_whole, head_part}
use Rattle.job.proofs.head_bytes.Goals as goal

pub returns-then-is_empty : goal.returns-then-is_empty
returns-then-is_empty c = none_fed _ _ (search rules)

pub returns-then-got-eq-HEAD_SIZE : goal.returns-then-got-eq-HEAD_SIZE
returns-then-got-eq-HEAD_SIZE c = head_whole _ _ (search rules) (search rules) c.if-got-eq-HEAD_SIZE.true c.put.ensures c.open_reader-reader.ensures

pub returns-else-got-eq-HEAD_SIZE : goal.returns-else-got-eq-HEAD_SIZE
returns-else-got-eq-HEAD_SIZE c = head_part _ _ (search rules) (search rules) c.put.ensures
