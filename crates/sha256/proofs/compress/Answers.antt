-- `sha256::compress` meets its contract, from what its callees ensure.
use Rattle.sha256.proofs.RoundLaws.{compress_is}
use Rattle.sha256.proofs.compress.Goals as goal

pub returns : goal.returns
returns c = compress_is _ _ c.rounds.ensures c.add_words.ensures
