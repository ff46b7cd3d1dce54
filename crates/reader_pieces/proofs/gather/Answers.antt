-- `reader_pieces::gather` meets its contract: a run is stored byte by byte.
use mathlib.Core.Path.{refl}
use Rattle.buffer.proofs.BufferLaws.{copy_more, copy_done}
use Rattle.reader_pieces.proofs.gather.Goals as goal

pub loop-i-preserved : goal.loop-i-preserved
loop-i-preserved c = copy_more 0 _ _ _ _ c.loop-i.invariant c.loop-i-test.true refl

pub returns-after-loop-i : goal.returns-after-loop-i
returns-after-loop-i c = copy_done _ _ _ _ c.loop-i.invariant c.loop-i-test.false
