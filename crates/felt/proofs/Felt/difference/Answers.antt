-- `Felt::difference` meets its contract.
use Rattle.std.proofs.Common.{◌∙◌, rules}
use Rattle.felt.proofs.CheckedLaws.{two, mapped}
use Rattle.felt.specs.Checked.{difference_answer}
use Rattle.felt.proofs.Felt.difference.Goals as goal

pub returns : goal.returns
unfolding difference_answer
returns c = c.from.ensures ∙ two _ _ c.map.result c.both.ensures c.map.ensures.cases (λ v e f q. mapped c.map.result q (λ y h. search rules))
