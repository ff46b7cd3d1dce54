-- `polynomial::evaluate` meets its contract: after i turns the values at the first i points stand, and x is point i.
use mathlib.Core.Path.{refl, ◌∙◌}
use native.Mathlib.Omega.{arith}
use borrow.Author.Rules.{rules}
use Rattle.message.specs.Lists.{tabulate}
use Rattle.polynomial.proofs.PolynomialLaws.{first_values, point-next, values_turn, values-end}
use Rattle.polynomial.proofs.evaluate.Goals as goal

pub loop-value-init : goal.loop-value-init
unfolding first_values tabulate
loop-value-init c = record { at_the_point = c.point-x.ensures; stored = refl }

pub loop-value-preserved : goal.loop-value-preserved
loop-value-preserved c =
    let l = c.loop-value in
    record {
      at_the_point = c.mul-x.ensures ∙ point-next _ _ _ (search rules) (search rules) l.invariant.at_the_point c.subgroup_generator-root.ensures;
      stored = values_turn c.args.polynomial.now l.value-items _ _ l.value-index (omega arith) l.invariant.at_the_point c.eval_lent.ensures l.invariant.stored;
    }

pub returns : goal.returns
returns c =
    let l = c.loop-value in
    values-end c.args.polynomial.now l.value-items _ _ l.value-index (omega arith) (omega arith) l.invariant.stored
