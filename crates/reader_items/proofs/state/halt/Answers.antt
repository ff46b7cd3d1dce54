-- `reader_items::state::halt` meets its contract: what `default` gives are the zeros of a stopped reader.
use Rattle.reader_model.proofs.Defaults.{cursor_of, walk_of}
use Rattle.reader_items.proofs.state.halt.Goals as goal

pub returns : goal.returns
returns c = rw (c.at.ensures, c.from_header.ensures, cursor_of c.default.ensures, walk_of c.default-2.ensures)
