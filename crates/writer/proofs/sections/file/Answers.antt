-- `writer::sections::file` meets its contract: its calls are the start, the layers and the end of the model, which is the built file.
use native.Mathlib.Omega.{arith}
use Rattle.params.specs.Parameters.{queries_offset, file_length}
use Rattle.writer.proofs.SectionLaws.{file-left}
use Rattle.writer.proofs.sections.file.Goals as goal

pub head-requires : goal.head-requires
unfolding file_length queries_offset
head-requires c = omega (arith, c.requires)

pub layers-layered-requires : goal.layers-layered-requires
unfolding file_length queries_offset
layers-layered-requires c = omega (arith, c.requires, c.head.auto)

pub finish-finished-requires : goal.finish-finished-requires
unfolding file_length
finish-finished-requires c = rw c.layers-layered.ensures.valid_kept (omega (arith, c.requires, c.head.auto, c.layers-layered.auto))

pub returns : goal.returns
returns c =
    let a = c.args in
    let h = c.requires in
    let l = c.layers-layered.ensures in
    let state = rw l.valid_kept at c.finish-finished.ensures.state_value in
    let finals = rw l.valid_kept at c.finish-finished.ensures.file_after in
    let openings = rw l.valid_kept at c.openings.ensures in
    file-left a.valid.params a.context a.coefficients.now a.numbers.now a.bytes.now a.file.now a.valid.valid h.0 h.1.0 h.1.1.0 h.1.1.1 c.put.ensures c.head.ensures c.start.ensures l.state_value l.numbers_after l.bytes_after l.file_after state finals openings
