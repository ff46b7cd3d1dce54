-- `reader_items::state::closed_state` meets its contract.
use Rattle.reader_model.proofs.Defaults.{tables_of}
use Rattle.reader_items.proofs.state.closed_state.Goals as goal

pub returns : goal.returns
returns c = rw (c.halt.ensures, tables_of c.default.ensures)
