-- `params::final_count` meets its contract: it is the number that admitted parameters give.
use Rattle.std.proofs.Common.{rules}
use Rattle.params.proofs.AdmissionLaws.{if_admitted}
use Rattle.params.proofs.final_count.Goals as goal

pub returns : goal.returns
returns c = if_admitted _ _ c.admitted.ensures.number c.admitted.ensures.ok c.map_or.ensures (λ v e f. search rules)
