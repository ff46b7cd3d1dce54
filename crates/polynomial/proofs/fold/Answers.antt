-- `polynomial::fold` meets its contract: after i turns the fold of the first 2·i coefficients stands over the first i.
use native.Mathlib.Omega.{arith}
use borrow.Author.Rules.{rules}
use Rattle.polynomial.proofs.PolynomialLaws.{fold_start, fold_turn, fold_end, fold_none}
use Rattle.polynomial.proofs.fold.Goals as goal

pub loop-i-init : goal.loop-i-init
loop-i-init c = fold_start _ _

pub loop-i-preserved : goal.loop-i-preserved
loop-i-preserved c =
    let l = c.loop-i in
    fold_turn _ _ l.i (omega arith) l.invariant c.mul_add.ensures

pub returns-after-loop-i : goal.returns-after-loop-i
returns-after-loop-i c =
    let l = c.loop-i in
    fold_end _ _ l.i (search rules) (search rules) l.invariant

pub returns-else-poly-eq0 : goal.returns-else-poly-eq0
returns-else-poly-eq0 c = fold_none _ _ c.if-poly-eq0.false
