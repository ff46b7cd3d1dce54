use Rattle.verdict.proofs.Laws.{ended-answer}
use Rattle.verdict.proofs.kept.Kept.end.Goals as goal

pub returns : goal.returns
returns c = ended-answer c.self.view_is c.end.ensures
