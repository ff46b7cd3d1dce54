-- `message::first_u64` meets its contract.
use borrow.Author.Rules.{rules}
use native.Mathlib.Omega.{arith}
use Rattle.message.proofs.Bytes.{num_four, num_eight}
use Rattle.message.proofs.first_u64.Goals as goal

pub returns : goal.returns
returns c = omega (arith, num_eight c.args.d (search rules), num_four c.args.d (search rules))
