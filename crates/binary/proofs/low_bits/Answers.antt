-- `binary::low_bits` meets its contract.
use native.Mathlib.Omega.{arith}
use borrow.Author.Rules.{rules}
use Rattle.binary.proofs.BinaryLaws.{low_all}
use Rattle.binary.proofs.low_bits.Goals as goal

pub returns-in-None : goal.returns-in-None
returns-in-None c = low_all _ _ (search rules) (omega (arith, c.in-None.ensures, c.into.ensures))
