-- `reader_pieces::feed` meets its contract.
use mathlib.Core.Path.{sym, ◌∙◌}
use native.Mathlib.Omega.{arith}
use borrow.Author.Tests.{eqb-true}
use Rattle.sha256.specs.Sha256.{sha256}
use Rattle.reader_model.proofs.Pieces.{fed-stopped, fed_all, fed-more, fed_last}
use Rattle.reader_items.proofs.Laws.{goes_on_sane, advanced_risen}
use Rattle.reader_pieces.proofs.feed.Goals as goal

pub invariant_of-up : goal.invariant_of-up
invariant_of-up c = record { within = goes_on_sane _ (sym c.goes_on.ensures ∙ c.if-goes_on.true) }

pub loop-rest-preserved-then-goes_on : goal.loop-rest-preserved-then-goes_on
loop-rest-preserved-then-goes_on c =
    c.loop-rest.invariant
    ∙ fed_last sha256 _ _ _ c.split_at.ensures.by_index.0 c.gather.ensures (omega arith) (omega (arith, c.item_length-need.ensures))
    (advanced_risen _ (sym c.goes_on.ensures ∙ c.if-goes_on.true) c.up-c.ensures)

pub loop-rest-preserved-else-goes_on : goal.loop-rest-preserved-else-goes_on
loop-rest-preserved-else-goes_on c =
    c.loop-rest.invariant
    ∙ fed_last sha256 _ _ _ c.split_at.ensures.by_index.0 c.gather.ensures (omega arith) (omega (arith, c.item_length-need.ensures)) c.advance-c.ensures

pub loop-rest-preserved : goal.loop-rest-preserved
loop-rest-preserved c =
    c.loop-rest.invariant ∙ fed-more sha256 _ _ _ c.split_at.ensures.by_index.0 c.gather.ensures (omega (arith, c.item_length-need.ensures, c.min.ensures))

pub returns-after-loop-rest : goal.returns-after-loop-rest
returns-after-loop-rest c = sym (c.loop-rest.invariant ∙ fed_all sha256 _ _ (eqb-true _ _ (sym c.is_empty.ensures ∙ c.loop-rest-test.false)))

pub returns-then-need-c : goal.returns-then-need-c
returns-then-need-c c = sym (c.loop-rest.invariant ∙ fed-stopped sha256 _ _ (omega (arith, c.item_length-need.ensures)))
