-- `writer::checks::all_below` meets its contract.
use mathlib.Core.Path.{◌∙◌}
use lib.Dec.{ltb}
use Rattle.std.proofs.Common.{rules, tests}
use Rattle.std.proofs.lemmas.Iterator.{YieldsList-from_slice}
use Rattle.std.proofs.lemmas.Iterator.Search.{all_from_yields_List}
use Rattle.field.specs.Modular.{p as modulus}
use Rattle.writer.proofs.WriterLaws.{below_all}
use Rattle.writer.proofs.checks.all_below.Goals as goal

pub returns : goal.returns
returns c =
    let l = c.args.coefficients.now in
    all_from_yields_List (λ x. ltb x modulus) _ _ c.all.result c.all.ensures.ran (YieldsList-from_slice l cc) (λ x b q k. search (rules, tests)) ∙ below_all l
