-- `writer::sections::head` meets its contract: three parts, one after the other.
use borrow.Author.Rules.{rules}
use Rattle.writer.proofs.SectionLaws.{head_left}
use Rattle.writer.proofs.sections.head.Goals as goal

pub returns : goal.returns
returns c =
    let a = c.args in
    head_left a.p a.file.now (search rules) c.header-bytes.ensures c.put_count.ensures c.put.ensures c.put_count-2.ensures
