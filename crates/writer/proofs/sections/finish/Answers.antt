-- `writer::sections::finish` meets its contract: the count and the coefficients are put, and absorbed.
use mathlib.Core.Path.{sym, ap, ◌∙◌}
use native.Mathlib.Omega.{arith}
use lib.ListN.{take}
use lib.Seq.{length-take-le}
use Rattle.params.specs.Parameters.{final_count}
use Rattle.params.proofs.ParameterLaws.{final-small, from_valid}
use Rattle.writer.proofs.SectionLaws.{final_inside, finish_left}
use Rattle.writer.proofs.sections.finish.Goals as goal

pub slice_bounds-last-end : goal.slice_bounds-last-end
slice_bounds-last-end c =
    let w = c.args.scratch.now in
    let p = w.valid.params in
    let full = from_valid p (final_count p) w.valid.valid c.final_count-count.ensures in
    sym (length-take-le _ _ (omega (arith, full, final_inside p w.numbers.now w.numbers_fit)))

pub final_of-requires : goal.final_of-requires
final_of-requires c =
    let w = c.args.scratch.now in
    let p = w.valid.params in
    let full = from_valid p (final_count p) w.valid.valid c.final_count-count.ensures in
    let enough = final_inside p w.numbers.now w.numbers_fit in
    omega (arith, full, final-small p w.valid.valid, length-take-le c.final_count-count.result w.numbers.now (omega (arith, full, enough)))

pub returns : goal.returns
returns c =
    let w = c.args.scratch.now in
    let p = w.valid.params in
    let full = from_valid p (final_count p) w.valid.valid c.final_count-count.ensures in
    let enough = final_inside p w.numbers.now w.numbers_fit in
    let last = ap (λ k. take k c.final_of.result) (sym (length-take-le c.final_count-count.result w.numbers.now (omega (arith, full, enough)))) ∙ c.final_of.ensures in
    let r = finish_left p c.args.s.state w.numbers.now c.args.file.now _ w.valid.valid c.requires c.final_count-count.ensures c.root_offset-at.ensures c.put_count.ensures enough c.put_words.ensures last c.absorb_final.ensures in
    record { state_value = r.0; file_after = r.1 }
