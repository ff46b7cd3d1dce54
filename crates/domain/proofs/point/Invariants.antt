-- After j turns both generators are at their power 2^j.
use Rattle.std.proofs.Common.{◌≡◌, ◌^◌}
use Rattle.field.specs.Modular.{pow_mod, generator, subgroup_generator}
use Rattle.domain.proofs.point.Given as goal

abbrev pub invariant-loop-j : goal.invariant-loop-j
invariant-loop-j l = (l.shift ≡ pow_mod generator (2 ^ l._j)) × (l.root ≡ pow_mod (subgroup_generator l.n) (2 ^ l._j))
