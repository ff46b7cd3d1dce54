-- `sha256::add_words` meets its contract: each call of the closure gives the sum of two words.
use borrow.Author.Rules.{rules}
use Rattle.sha256.specs.Sha256.{add_words}
use Rattle.sha256.proofs.Build.{made}
use Rattle.sha256.proofs.add_words.Goals as goal

pub returns : goal.returns
unfolding add_words
returns c = made _ _ _ (λ i y q k. search rules) 8 _ c.from_fn.ensures.items
