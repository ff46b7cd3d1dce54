-- `sha256::round` meets its contract: each part is what the callee ensures.
use Rattle.sha256.specs.Constants.{round_constants}
use Rattle.sha256.proofs.RoundLaws.{round_is}
use Rattle.sha256.proofs.round.Goals as goal

pub returns : goal.returns
unfolding round_constants
returns c = round_is c.args.s _ c.args.w c.big_sigma1.ensures c.choose.ensures c.big_sigma0.ensures c.majority.ensures
