-- `line::Text::put_decimal`: the digits put are the number's decimal.
use Rattle.line.proofs.Texts.{decimal_room, decimal-put}
use Rattle.line.proofs.Text.put_decimal.Goals as goal

pub put-requires : goal.put-requires
put-requires c = decimal_room _ _ c.decimal-count.ensures.len c.decimal-count.ensures.digits c.requires

pub returns : goal.returns
returns c = decimal-put _ _ c.decimal-count.ensures.len c.decimal-count.ensures.digits c.put.ensures
