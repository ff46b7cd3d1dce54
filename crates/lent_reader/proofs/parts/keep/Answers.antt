-- `lent_reader::parts::keep` meets its contract.
use mathlib.Core.Path.{◌≡◌, ◌∙◌}
use lib.ListN.{length}
use borrow.Author.Rules.{rules}
use Rattle.lent_reader.specs.Held.{small_of}
use Rattle.lent_reader.proofs.Laws.{spelt_by}
use Rattle.lent_reader.proofs.parts.keep.Goals as goal

pub returns : goal.returns
unfolding small_of
returns c =
    let values = c.args.c.walk.values in
    let four : length values ≡ 4 = search rules in
    rw (c.number_of.ensures, c.copy_from_slice.ensures.after ∙ c.header.ensures, ← spelt_by 4 values four)
