-- `binary::high_bits` meets its contract.
use borrow.Author.Rules.{rules}
use Rattle.binary.proofs.BinaryLaws.{high_shifted}
use Rattle.binary.proofs.high_bits.Goals as goal

pub returns : goal.returns
returns c = high_shifted c.args.v c.args.bits (search rules) (rw c.into.ensures at c.unbounded_shr.ensures)
