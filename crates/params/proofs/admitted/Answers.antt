-- `params::admitted` meets its contract.
use Rattle.params.proofs.AdmissionLaws.{when_valid, when_not_valid}
use Rattle.params.proofs.ParameterLaws.{tested}
use Rattle.params.proofs.admitted.Goals as goal

pub invariant_of-result : goal.invariant_of-result
invariant_of-result c = record { valid = tested c.args.p c.is_valid.ensures c.if-is_valid.true }

pub returns-then-is_valid-clause-number : goal.returns-then-is_valid-clause-number
returns-then-is_valid-clause-number c = when_valid c.args.p c.is_valid.ensures c.if-is_valid.true

pub returns-else-is_valid-clause-number : goal.returns-else-is_valid-clause-number
returns-else-is_valid-clause-number c = when_not_valid c.args.p c.is_valid.ensures c.if-is_valid.false
