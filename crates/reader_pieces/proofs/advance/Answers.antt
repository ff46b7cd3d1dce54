-- `reader_pieces::advance` meets its contract.
use Rattle.reader_items.proofs.Laws.{advanced_sane, advanced_not}
use Rattle.reader_pieces.proofs.advance.Goals as goal

pub returns-in-Some : goal.returns-in-Some
returns-in-Some c = advanced_sane _ c.in-Some.ensures c.dispatch.ensures

pub returns-in-None : goal.returns-in-None
returns-in-None c = advanced_not _ c.in-None.ensures c.halt.ensures
