-- `fold::horner` meets its contract.
use Rattle.std.proofs.Common.{ℕ, arith, sym}
use Rattle.std.proofs.lemmas.List.{take_all, length-take-le}
use Rattle.fold.proofs.PolyLaws.{none_behind, front_shorter, pair_behind, first_left}
use Rattle.fold.proofs.horner.Goals as goal

pub loop-rest-init : goal.loop-rest-init
loop-rest-init c =
    record { in_range = omega arith; front = sym (take_all _ c.args.coefficients.now (omega arith)); value = none_behind c.args.coefficients.now c.args.x }

pub loop-rest-preserved : goal.loop-rest-preserved
loop-rest-preserved c =
    let l = c.loop-rest.invariant in
    record {
      in_range = omega (arith, length-take-le {A = ℕ});
      front = front_shorter _ c.args.x _ l.front;
      value = pair_behind _ _ _ l.front l.in_range c.in-len2-up.len_at_least l.value c.mul-square.ensures c.mul_add-pair.ensures c.mul_add-value.ensures;
    }

pub returns-in-len1 : goal.returns-in-len1
returns-in-len1 c =
    let l = c.loop-rest.invariant in
    first_left _ _ _ l.front l.in_range (omega arith) l.value c.mul_add.ensures
