-- `writer::sections::final_of` meets its contract: the numbers fit in the array.
use Rattle.writer.proofs.WriterLaws.{array_front}
use Rattle.writer.proofs.sections.final_of.Goals as goal

pub returns : goal.returns
returns c = array_front _ c.args.numbers.now c.requires c.put.ensures
