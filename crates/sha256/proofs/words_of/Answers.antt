-- `sha256::words_of` meets its contract: each call of the closure gives a word.
use borrow.Author.Rules.{rules}
use Rattle.sha256.specs.Sha256.{block, word}
use Rattle.sha256.proofs.Build.{made}
use Rattle.sha256.proofs.words_of.Goals as goal

pub returns : goal.returns
unfolding block word
returns c = made _ _ _ (λ i y q k. search rules) 16 _ c.from_fn.ensures.items
