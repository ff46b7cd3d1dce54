-- `sha256::hash` meets its contract, by the message's length.
use native.Mathlib.Omega.{arith}
use Rattle.sha256.proofs.HashLaws.{answer_short, answer_long}
use Rattle.sha256.proofs.hash.Goals as goal

pub returns-then-message-gt-LONGEST : goal.returns-then-message-gt-LONGEST
returns-then-message-gt-LONGEST c = answer_long c.args.message.now (omega arith) c.at.ensures

pub returns : goal.returns
returns c = answer_short c.args.message.now (omega arith) c.absorb.ensures c.bytes_of.ensures
