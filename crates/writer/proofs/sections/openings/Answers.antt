-- `writer::sections::openings` meets its contract: the count and the queries are put.
use native.Mathlib.Omega.{arith}
use Rattle.params.specs.Parameters.{queries_offset, file_length}
use Rattle.params.proofs.ParameterLaws.{from_valid}
use Rattle.writer.proofs.SectionLaws.{openings_left}
use Rattle.writer.proofs.sections.openings.Goals as goal

pub queries-requires : goal.queries-requires
unfolding file_length
queries-requires c =
    let v = c.args.scratch.now.valid in
    omega (arith, from_valid v.params (queries_offset v.params) v.valid c.queries_offset.ensures)

pub returns : goal.returns
returns c =
    let w = c.args.scratch.now in
    openings_left w.valid.params c.args.s.state w.numbers.now w.bytes.now c.args.file.now w.valid.valid c.requires c.query_count_offset.ensures c.queries_offset.ensures c.put_count.ensures c.queries.ensures
