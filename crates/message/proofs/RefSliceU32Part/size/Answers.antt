-- The size of numbers as a message's part.
use mathlib.Core.Path.{sym}
use Rattle.message.proofs.MessageLaws.{words-length}
use Rattle.message.proofs.RefSliceU32Part.size.Goals as goal

pub returns-clause-value : goal.returns-clause-value
returns-clause-value c = sym (words-length _)
