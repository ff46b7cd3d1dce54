-- `subgroup_generator` meets its contract: each entry of the table passes the test that it is 125 squared 30 − t times.
use mathlib.Core.Path.{◌≡◌, sym, ap, ◌∙◌}
use mathlib.Core.Bool.{Bool}
use Prim.Native.Nat.{ℕ, ◌-◌}
use native.Mathlib.Omega.{arith}
use lib.Dec.{eqb, eqb→eq}
use lib.ListN.{get_or}
use Rattle.field.specs.Modular.{mul_mod}
use Rattle.field.proofs.Squares.{squares}
use Rattle.field.proofs.Subgroup.{subgroup_squares}
use Rattle.felt.specs.declared.TheConstants.{SUBGROUP_GENERATORS}
use Rattle.felt.proofs.Table.{rule_at}
use Rattle.felt.proofs.subgroup_generator.Goals as goal

right : ℕ → ℕ → Bool
right t x = eqb x (squares (30 - t) 125)

pub returns : goal.returns
unfolding right squares mul_mod
returns c =
    let t = c.args.t in
    let i = c.min.result in
    let same : 30 - i ≡ 30 - t = omega arith in
    eqb→eq (get_or SUBGROUP_GENERATORS i 0) (squares (30 - i) 125) (rule_at right SUBGROUP_GENERATORS tt i (omega arith))
    ∙ ap (λ (n : ℕ). squares n 125) same
    ∙ sym (subgroup_squares t)
