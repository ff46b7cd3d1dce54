-- `message::number_bytes` meets its contract.
use mathlib.Core.Path.{◌∙◌}
use Rattle.message.proofs.Bytes.{low_bytes}
use Rattle.message.proofs.number_bytes.Goals as goal

pub returns : goal.returns
returns c = c.to_le_bytes.ensures ∙ low_bytes 4 c.args.v
