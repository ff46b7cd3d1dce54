-- `Felt::negation` meets its contract.
use Rattle.std.proofs.Common.{◌∙◌, rules}
use Rattle.felt.proofs.CheckedLaws.{one, mapped}
use Rattle.felt.specs.Checked.{negation_answer}
use Rattle.felt.proofs.Felt.negation.Goals as goal

pub returns : goal.returns
unfolding negation_answer
returns c = c.from.ensures ∙ one _ c.map.result c.checked.ensures c.map.ensures.cases (λ v e q. mapped c.map.result q (λ y h. search rules))
