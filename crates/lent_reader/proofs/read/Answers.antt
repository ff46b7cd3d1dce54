-- `lent_reader::read` meets its contract.
use Rattle.lent_reader.proofs.Laws.{outcome_by, pieced_from, whole_from}
use borrow.Author.Rules.{rules}
use Rattle.lent_reader.proofs.read.Goals as goal

pub returns : goal.returns
returns c = search (outcome_by, pieced_from, whole_from, rules)
