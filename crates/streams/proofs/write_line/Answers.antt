-- `streams::write_line`: what is cut off at the line's length is the line.
use Rattle.std.proofs.Common.{rules}
use Rattle.line.specs.Line.{line_of}
use Rattle.line.proofs.Texts.{line_counts, shown}
use Rattle.streams.proofs.write_line.Goals as goal

pub slice_bounds-bytes-end : goal.slice_bounds-bytes-end
slice_bounds-bytes-end g c = (line_counts c.args.answer (search rules) (search rules) c.line-length.ensures).0

pub slice_bounds-write_all-end : goal.slice_bounds-write_all-end
slice_bounds-write_all-end g c = (line_counts c.args.answer (search rules) (search rules) c.line-length.ensures).1

pub returns : goal.returns
returns g c = rw (shown (line_of c.args.answer) c.line-length.ensures) at c.write_all.ensures.bytes
