use mathlib.Core.Path.{sym, ◌∙◌}
use native.Mathlib.Omega.{arith}
use Rattle.std.proofs.lemmas.Result.{err_from_is_err_and}
use Rattle.params.proofs.ParameterLaws.{from_valid}
use Rattle.look_up.proofs.LookUpLaws.{HasOpening, span_found, span_absent, span_refused}
use Rattle.look_up.proofs.opening_of.Goals as goal
use Rattle.look_up.proofs.opening_of.Goals.{then-length-file_length-via-then-length-file_length, then-length-file_length-via-else-length-file_length+then-query-p, then-length-file_length-via-else-length-file_length+else-query-p+then-layer-p}

pub returns-in_err-p : goal.returns-in_err-p
returns-in_err-p c =
    let p = err_from_is_err_and c.from_residual.result c.from_residual.ensures.1 in
    rw (p.1, p.2) (span_refused _ _ _ _ _ c.in_err-p.ensures.number)

pub returns-then-length-file_length : goal.returns-then-length-file_length
returns-then-length-file_length c =
    let valid = c.in_ok-p.field-0.valid in
    rw (← c.in_ok-p.ensures.ok) (span_absent _ _ _ _ valid (λ (h : HasOpening c.in_ok-p.field-0.params c.args.length c.args.query c.args.layer). elim c.then-length-file_length.branch [
      | then-length-file_length-via-then-length-file_length w ↦ w.if-length-file_length.true (h.whole ∙ sym (from_valid _ _ valid c.file_length.ensures))
      | then-length-file_length-via-else-length-file_length+then-query-p w ↦ omega (arith, w.if-query-p.true, h.query)
      | then-length-file_length-via-else-length-file_length+else-query-p+then-layer-p w ↦ omega (arith, w.if-layer-p.true, h.layer)
    ]))

pub returns : goal.returns
returns c =
    let valid = c.in_ok-p.field-0.valid in
    rw (← c.in_ok-p.ensures.ok) (span_found _ _ _ _ valid (c.if-length-file_length.false ∙ from_valid _ _ valid c.file_length.ensures) (omega arith) (omega arith) c.opening_offset.ensures c.opening_length.ensures)
