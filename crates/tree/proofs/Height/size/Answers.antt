-- `tree::Height::size` meets its contract.
use native.Mathlib.Omega.{arith}
use Rattle.tree.proofs.TreeLaws.{size_even}
use Rattle.tree.proofs.Height.size.Goals as goal

pub returns : goal.returns
returns c = omega (arith, size_even c.args.self.levels)
