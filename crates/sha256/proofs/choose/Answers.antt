-- `sha256::choose` meets its contract: on words its operations give the definition's value.
use native.Mathlib.Omega.{arith}
use Rattle.sha256.proofs.Bitwise.{choice_is}
use Rattle.sha256.proofs.choose.Goals as goal

pub returns : goal.returns
returns c = choice_is c.args.x c.args.y c.args.z (omega arith) (omega arith) (omega arith)
