-- `tree::Height::leaves` meets its contract.
use Rattle.binary.proofs.BinaryLaws.{power_made}
use Rattle.tree.proofs.Height.leaves.Goals as goal

pub returns : goal.returns
returns c = power_made _ c.args.self.bounded c.power_of_two.ensures
