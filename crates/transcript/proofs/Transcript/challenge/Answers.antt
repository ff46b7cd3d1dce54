-- `transcript::Transcript::challenge` meets its contract.
use Rattle.transcript.proofs.TranscriptLaws.{tagged_challenge}
use borrow.Author.Rules.{rules}
use Rattle.transcript.proofs.Transcript.challenge.Goals as goal

pub returns : goal.returns
returns c = tagged_challenge _ (search rules) c.tagged_hash-d.ensures c.first_u64.ensures c.reduce.ensures
