-- `buffer::put` meets its contract: a part that fits is copied, and nothing else is.
use mathlib.Core.Path.{sym, ◌∙◌}
use native.Mathlib.Omega.{arith}
use Rattle.std.proofs.Common.{rules}
use Rattle.buffer.proofs.BufferLaws.{put-fits, put-stays, copy_more, copy_done}
use Rattle.buffer.proofs.put.Goals as goal
use Rattle.buffer.proofs.put.Goals.{else-at-buffer-via-then-at-buffer+else-part-buffer, else-at-buffer-via-else-at-buffer}

pub loop-i-preserved : goal.loop-i-preserved
loop-i-preserved g c = (search rules, copy_more _ _ _ _ _ c.loop-i.invariant.1 c.loop-i-test.true c.index-part-i.is)

pub returns-after-loop-i : goal.returns-after-loop-i
returns-after-loop-i g c = copy_done _ _ _ _ c.loop-i.invariant.1 c.loop-i-test.false ∙ sym (put-fits _ _ _ (omega arith))

pub returns-else-at-buffer : goal.returns-else-at-buffer
returns-else-at-buffer g c =
    elim c.else-at-buffer.branch [
      | else-at-buffer-via-then-at-buffer+else-part-buffer w ↦ sym (put-stays _ _ _ (omega arith))
      | else-at-buffer-via-else-at-buffer w ↦ sym (put-stays _ _ _ (omega arith))
    ]
