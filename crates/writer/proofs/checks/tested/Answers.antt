-- `writer::checks::tested` meets its contract: where the scratch or the output is too short, and where no test fails.
use mathlib.Core.Path.{sym, ◌∙◌}
use native.Mathlib.Omega.{arith}
use Rattle.params.specs.Parameters.{file_length}
use Rattle.params.proofs.ParameterLaws.{from_valid}
use Rattle.params.proofs.AdmissionLaws.{admitted-valid}
use Rattle.writer.proofs.WriterLaws.{first_count, first_size, few-numbers, few_bytes, short-output, none_fails}
use Rattle.writer.proofs.checks.tested.Goals as goal
use Rattle.writer.proofs.checks.tested.Goals.{then-numbers-numbers_needed-via-then-numbers-numbers_needed, then-numbers-numbers_needed-via-else-numbers-numbers_needed+then-bytes-bytes_needed}

pub returns-then-numbers-numbers_needed-clause-number : goal.returns-then-numbers-numbers_needed-clause-number
returns-then-numbers-numbers_needed-clause-number c =
    let same = c.in_ok-valid.ensures.ok in
    let admitted = sym c.in_ok-valid.ensures.number in
    let count = c.if-coefficients-count.false ∙ first_count c.args.p _ same c.count.ensures.0 in
    let below = sym c.all_below.ensures ∙ c.if-not-all_below.false in
    let size = first_size c.args.p _ same c.size-size.ensures.0 in
    elim c.then-numbers-numbers_needed.branch [
      | then-numbers-numbers_needed-via-then-numbers-numbers_needed w ↦ few-numbers _ _ _ _ _ admitted count below (omega (arith, size))
      | then-numbers-numbers_needed-via-else-numbers-numbers_needed+then-bytes-bytes_needed w ↦ few_bytes _ _ _ _ _ admitted count below (omega (arith, size)) (omega (arith, size))
    ]

pub returns-then-output-length-clause-number : goal.returns-then-output-length-clause-number
returns-then-output-length-clause-number c =
    let p = c.args.p in
    let same = c.in_ok-valid.ensures.ok in
    let admitted = sym c.in_ok-valid.ensures.number in
    let count = c.if-coefficients-count.false ∙ first_count p _ same c.count.ensures.0 in
    let below = sym c.all_below.ensures ∙ c.if-not-all_below.false in
    let size = first_size p _ same c.size-size.ensures.0 in
    let length = from_valid p (file_length p) (admitted-valid p admitted) c.file_length-length.ensures in
    short-output _ _ _ _ _ admitted count below (omega (arith, size)) (omega (arith, size)) (omega (arith, length))

pub returns-clause-number : goal.returns-clause-number
returns-clause-number c =
    let p = c.args.p in
    let same = c.in_ok-valid.ensures.ok in
    let admitted = sym c.in_ok-valid.ensures.number in
    let count = c.if-coefficients-count.false ∙ first_count p _ same c.count.ensures.0 in
    let below = sym c.all_below.ensures ∙ c.if-not-all_below.false in
    let size = first_size p _ same c.size-size.ensures.0 in
    let length = from_valid p (file_length p) (admitted-valid p admitted) c.file_length-length.ensures in
    none_fails _ _ _ _ _ admitted count below (omega (arith, size)) (omega (arith, size)) (omega (arith, length))
