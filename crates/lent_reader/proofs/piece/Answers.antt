-- `lent_reader::piece` meets its contract: a piece that is held, or one that is read.
use Rattle.lent_reader.proofs.Laws.{read_whole, held-piece}
use Rattle.lent_reader.proofs.piece.Goals as goal

pub returns-then-fill_item : goal.returns-then-fill_item
returns-then-fill_item c =
    let front = c.front_of-front.ensures in
    let filled = c.fill_item.ensures in
    held-piece _ _ _ _ _ _ _ _ _ _ front.0 filled.inside filled.item front.1.0 front.1.1.0 front.1.1.1 c.if-fill_item.true c.open_answer.ensures

pub returns-else-fill_item : goal.returns-else-fill_item
returns-else-fill_item c =
    let test = c in
    let filled = test.fill_item.ensures in
    read_whole _ _ _ _ _ _ _ _ _ _ test.front_of-front.ensures.0 filled.inside filled.item test.if-fill_item.false c.read.ensures
