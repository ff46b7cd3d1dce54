use Rattle.verdict.proofs.Laws.{fed-piece}
use Rattle.verdict.proofs.kept.Kept.piece.Goals as goal

pub returns : goal.returns
returns c = fed-piece _ c.self.view_is c.piece.ensures
