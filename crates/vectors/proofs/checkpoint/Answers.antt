-- `vectors::checkpoint`: each turn brings the next digest, and the thousandth is the checkpoint.
use Rattle.std.proofs.Common.{arith, rules}
use Rattle.vectors.proofs.MonteLaws.{last_none, last_more, last_all}
use Rattle.vectors.proofs.checkpoint.Goals as goal

pub loop-init : goal.loop-init
loop-init c = last_none _

pub loop-preserved : goal.loop-preserved
loop-preserved c = last_more _ _ c.loop.invariant c.as_flattened.ensures.value c.hash.ensures (search rules)

pub returns : goal.returns
returns c = last_all _ c.loop.invariant (omega arith)
