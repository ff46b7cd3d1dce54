-- `transcript::Transcript::draw` meets its contract.
use Rattle.transcript.proofs.TranscriptLaws.{tagged_drawn}
use borrow.Author.Rules.{rules}
use Rattle.transcript.proofs.Transcript.draw.Goals as goal

pub returns : goal.returns
returns c = tagged_drawn _ _ _ (search rules) c.tagged_hash-d.ensures c.first_number.ensures c.index_bits.ensures c.low_bits.ensures
