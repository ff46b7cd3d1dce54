-- `job::feed` meets its contract: what the head wants, and the rest.
use Rattle.std.proofs.Common.{◌∙◌}
use Rattle.job.proofs.Laws.{head_came, parts_fed}
use Rattle.job.proofs.feed.Goals as goal

pub proof_bytes-requires : goal.proof_bytes-requires
proof_bytes-requires c = head_came _ _ c.head_bytes.ensures (c.in-Some.ensures.cases.3 ∙ c.saturating_sub-missing.ensures)

pub returns-in-Some : goal.returns-in-Some
returns-in-Some c = parts_fed _ _ _ c.in-Some.ensures.cases.1 c.in-Some.ensures.cases.2 c.head_bytes.ensures c.proof_bytes.ensures
