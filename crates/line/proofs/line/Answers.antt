-- `line::line`: after the words there is room for the place and the newline.
use Rattle.std.proofs.Common.{arith, rules}
use Rattle.line.proofs.Texts.{sized, room_for_place, line_stored}
use Rattle.line.proofs.line.Goals as goal

pub put_decimal-requires : goal.put_decimal-requires
put_decimal-requires c = omega (arith, room_for_place c.args.a (search rules) (search rules) c.lead-text.ensures)

pub put-requires : goal.put-requires
put-requires c = omega (arith, sized c.put_decimal.ensures, room_for_place c.args.a (search rules) (search rules) c.lead-text.ensures)

pub returns : goal.returns
returns c = line_stored c.args.a (search rules) (search rules) c.lead-text.ensures c.put_decimal.ensures c.put.ensures
