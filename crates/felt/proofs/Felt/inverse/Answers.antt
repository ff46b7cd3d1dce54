-- `Felt::inverse` meets its contract.
use Rattle.std.proofs.Common.{◌∙◌, arith}
use Rattle.std.proofs.lemmas.Grind.{common_steps}
use Rattle.std.proofs.lemmas.Bool.Decides.{nat_tests}
use Rattle.felt.proofs.CheckedLaws.{one}
use Rattle.felt.specs.Checked.{inverse_answer}
use Rattle.felt.proofs.Felt.inverse.Goals as goal

pub returns : goal.returns
unfolding inverse_answer
returns c = c.from.ensures ∙ one _ c.and_then.result c.checked.ensures c.and_then.ensures (λ v e q. grind (arith, common_steps, nat_tests))
