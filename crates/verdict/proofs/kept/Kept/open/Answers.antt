use Rattle.std.proofs.lemmas.Result.{err_from_is_err_and}
use Rattle.verdict.proofs.Laws.{admitted-outcome, refused-verdict}
use Rattle.verdict.proofs.kept.Kept.open.Goals as goal

pub returns-in_err-admitted : goal.returns-in_err-admitted
returns-in_err-admitted c =
    let p = err_from_is_err_and c.from_residual.result c.from_residual.ensures.1 in
    rw (p.1, p.2) (refused-verdict _ _ c.in_err-admitted.ensures.number)

pub returns : goal.returns
returns c = admitted-outcome _ c.in_ok-admitted.ensures.number c.open.ensures
