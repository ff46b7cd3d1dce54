-- `job::terms_in` meets its contract: the context is copied out of the head.
use Rattle.std.proofs.Common.{rules}
use Rattle.job.proofs.Laws.{terms_by}
use Rattle.job.proofs.terms_in.Goals as goal

pub returns : goal.returns
returns c = search (terms_by, rules)
