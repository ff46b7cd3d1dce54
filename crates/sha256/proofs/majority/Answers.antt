-- `sha256::majority` meets its contract: its operations give the definition's value.
use Rattle.sha256.proofs.Bitwise.{majority_is}
use Rattle.sha256.proofs.majority.Goals as goal

pub returns : goal.returns
returns c = majority_is c.args.x c.args.y c.args.z
