-- `reader::start` meets its contract: what `default` gives are zeros.
use Rattle.reader_model.specs.Model.{started}
use Rattle.reader_model.proofs.Defaults.{cursor_of, walk_of, tables_of}
use Rattle.reader.proofs.start.Goals as goal

pub returns : goal.returns
unfolding started
returns c = rw (cursor_of c.default.ensures, walk_of c.default-2.ensures, tables_of c.default-3.ensures)
