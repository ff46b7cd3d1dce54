-- `transcript::Transcript::absorb_root` meets its contract.
use mathlib.Core.Path.{◌∙◌}
use Rattle.transcript.proofs.TranscriptLaws.{tagged_absorb}
use borrow.Author.Rules.{rules}
use Rattle.transcript.proofs.Transcript.absorb_root.Goals as goal

pub returns : goal.returns
returns c = c.tagged_hash-state.ensures ∙ tagged_absorb _ _ (search rules) (search rules)
