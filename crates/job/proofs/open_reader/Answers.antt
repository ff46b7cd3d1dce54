-- `job::open_reader` meets its contract.
use Rattle.job.proofs.Laws.{opens_by}
use Rattle.job.proofs.open_reader.Goals as goal

pub returns : goal.returns
returns c = opens_by _ c.terms_in.ensures c.open.ensures
