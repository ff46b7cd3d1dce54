-- `line::lead`: the words, and the number of a refusal.
use Rattle.std.proofs.Common.{arith, rules}
use Rattle.line.proofs.Texts.{sized, three_digits, lead_accepted, lead_refused}
use Rattle.line.proofs.lead.Goals as goal

pub returns-then-a-eq-ACCEPTED : goal.returns-then-a-eq-ACCEPTED
returns-then-a-eq-ACCEPTED c = lead_accepted c.args.a c.if-a-eq-ACCEPTED.true c.put.ensures

pub put_decimal-requires : goal.put_decimal-requires
put_decimal-requires c = omega (arith, sized c.put-else-a-eq-ACCEPTED.ensures, three_digits c.args.a.number (search rules))

pub put-requires-else-a-eq-ACCEPTED-2 : goal.put-requires-else-a-eq-ACCEPTED-2
put-requires-else-a-eq-ACCEPTED-2 c =
    omega (arith, sized c.put-else-a-eq-ACCEPTED.ensures, sized c.put_decimal.ensures, three_digits c.args.a.number (search rules))

pub returns-else-a-eq-ACCEPTED : goal.returns-else-a-eq-ACCEPTED
returns-else-a-eq-ACCEPTED c =
    lead_refused c.args.a (search rules) c.if-a-eq-ACCEPTED.false c.put-else-a-eq-ACCEPTED.ensures c.put_decimal.ensures
    c.put-else-a-eq-ACCEPTED-2.ensures
