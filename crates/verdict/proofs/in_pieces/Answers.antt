use borrow.Author.Rules.{rules}
use Rattle.verdict.proofs.Laws.{fed-next, fed-all, ended-verdict}
use Rattle.verdict.proofs.in_pieces.Goals as goal

pub loop-part-preserved : goal.loop-part-preserved
loop-part-preserved c = (
  search rules,
  tt,
  fed-next _ _ _ c.in-Some.ensures.steps.1.0 c.piece.ensures c.loop-part.invariant.2,
)

pub returns : goal.returns
returns c =
    ended-verdict c.end.ensures (fed-all _ _ c.in-None.ensures.steps.1.0 c.loop-part.invariant.2) (c.in_default.ensures c.args.proof.now)
