-- `message::first_count` meets its contract.
use borrow.Author.Rules.{rules}
use native.Mathlib.Omega.{arith}
use Rattle.message.proofs.Bytes.{num_two}
use Rattle.message.proofs.first_count.Goals as goal

pub returns : goal.returns
returns c = omega (arith, num_two c.args.d (search rules))
