-- `message::first_number` meets its contract.
use borrow.Author.Rules.{rules}
use native.Mathlib.Omega.{arith}
use Rattle.message.proofs.Bytes.{num_four}
use Rattle.message.proofs.first_number.Goals as goal

pub returns : goal.returns
returns c = omega (arith, num_four c.args.d (search rules))
