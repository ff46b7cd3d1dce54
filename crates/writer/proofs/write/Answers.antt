-- `writer::write` meets its contract: what the tests refuse is refused, and all else is written.
use mathlib.Core.Path.{refl, sym, ap, ◌∙◌}
use native.Mathlib.Omega.{arith}
use lib.Seq.{length-take-le}
use Rattle.sha256.specs.Sha256.{sha256}
use Rattle.params.specs.Parameters.{file_length}
use Rattle.params.proofs.ParameterLaws.{from_valid}
use Rattle.built.specs.Built.{built_file}
use Rattle.answer.proofs.RefusalLaws.{never_open}
use Rattle.writer.proofs.WrittenLaws.{passed, length-small, refused-left, succeeded-left}
use Rattle.writer.proofs.write.Goals as goal

pub slice_bounds-file-end : goal.slice_bounds-file-end
slice_bounds-file-end c =
    let ok = passed c.args.p c.args.coefficients.now _ _ _ (sym c.in-Ok.ensures.number) in
    omega (arith, from_valid c.args.p (file_length c.args.p) ok.parameters c.file_length-length.ensures, ok)

pub slice_bounds-file-end-in-Ok : goal.slice_bounds-file-end-in-Ok
slice_bounds-file-end-in-Ok c =
    let ok = passed c.args.p c.args.coefficients.now _ _ _ (sym c.in-Ok.ensures.number) in
    sym (length-take-le _ _ (omega (arith, from_valid c.args.p (file_length c.args.p) ok.parameters c.file_length-length.ensures, ok)))

pub file-requires : goal.file-requires
file-requires c =
    let ok = passed c.args.p c.args.coefficients.now _ _ _ (sym c.in-Ok.ensures.number) in
    let size = from_valid c.args.p (file_length c.args.p) ok.parameters c.file_length-length.ensures in
    rw c.in-Ok.ensures.ok (ok.count, (ok.numbers_fit, (ok.bytes_fit, length-take-le _ _ (omega (arith, size, ok)) ∙ size)))

pub overflow_cast-result : goal.overflow_cast-result
overflow_cast-result c =
    let ok = passed c.args.p c.args.coefficients.now _ _ _ (sym c.in-Ok.ensures.number) in
    record { fits = omega (arith, from_valid c.args.p (file_length c.args.p) ok.parameters c.file_length-length.ensures, length-small c.args.p ok.parameters) }

pub returns-in-Ok : goal.returns-in-Ok
returns-in-Ok c =
    let a = c.args in
    let ok = passed a.p a.coefficients.now _ _ _ (sym c.in-Ok.ensures.number) in
    let size = from_valid a.p (file_length a.p) ok.parameters c.file_length-length.ensures in
    let built = c.file.ensures ∙ ap (λ p. built_file sha256 p a.context a.coefficients.now) c.in-Ok.ensures.ok in
    let r = succeeded-left a.p a.context a.coefficients.now a.numbers.now a.bytes.now a.output.now c.file.new.numbers c.file.new.bytes c.in-Ok.ensures.number refl size built c.file.auto.numbers c.clear.ensures c.file.auto.bytes c.clear-in-Ok.ensures in
    record { value = r.0; output_after = r.1.0; numbers_after = r.1.1.0; bytes_after = r.1.1.1 }

pub returns-in-Err : goal.returns-in-Err
returns-in-Err c =
    let a = c.args in
    let r = refused-left a.p a.context a.coefficients.now a.numbers.now a.bytes.now a.output.now c.in-Err.ensures.number (never_open c.in-Err.refusal) in
    record { value = c.at.ensures ∙ r.0; output_after = r.1.0; numbers_after = r.1.1.0; bytes_after = r.1.1.1 }
