-- `binary::power_of_two` meets its contract.
use Rattle.binary.proofs.BinaryLaws.{power_shifted}
use Rattle.binary.proofs.power_of_two.Goals as goal

pub returns : goal.returns
returns c = power_shifted c.args.bits (rw c.into.ensures at c.unbounded_shl.ensures)
