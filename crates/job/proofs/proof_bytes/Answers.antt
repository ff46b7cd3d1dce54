-- `job::proof_bytes` meets its contract: with a whole head, every byte goes to the reader.
use Rattle.job.proofs.Laws.{proof-fed}
use Rattle.job.proofs.proof_bytes.Goals as goal

pub returns : goal.returns
returns c = proof-fed _ _ c.requires c.piece.ensures
