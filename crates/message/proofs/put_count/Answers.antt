-- `message::put_count` meets its contract: the bytes that are put are the number's, low byte first.
use Rattle.message.specs.Bytes.{le}
use Rattle.message.proofs.put_count.Goals as goal

pub returns : goal.returns
unfolding le
returns c = rw c.to_le_bytes.ensures at c.put.ensures
