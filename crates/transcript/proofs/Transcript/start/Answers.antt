-- `transcript::Transcript::start` meets its contract.
use Rattle.transcript.proofs.TranscriptLaws.{tagged_start}
use borrow.Author.Rules.{rules}
use Rattle.transcript.proofs.Transcript.start.Goals as goal

pub returns : goal.returns
returns c = tagged_start _ _ (search rules) (search rules) c.header.ensures c.tagged_hash-state.ensures
