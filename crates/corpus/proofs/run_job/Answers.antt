-- `corpus::run_job`: a job after its length, and its line.
use Rattle.std.proofs.Common.{rules, arith, ◌≡◌, take}
use Rattle.std.proofs.KnownBytes.{Consumes-trans}
use lib.Seq.{take_all}
use Rattle.message.specs.Bytes.{num}
use Rattle.message.proofs.Bytes.{num_four}
use Rattle.corpus.proofs.run_job.Goals as goal

pub returns-clause-told : goal.returns-clause-told
returns-clause-told g c =
    let size = c.in-Some.size in
    let first = rw c.in-Some.is at c.in_ok-size.ensures in
    let (job, long, second, told) = rw c.in-Some-2.is at c.in_ok-answer.ensures in
    let whole : num (take 4 size) ≡ num size = rw (take_all 4 size (search rules)) in
    λ _. (
      size,
      search rules,
      job,
      omega (arith, long, c.from_le_bytes.ensures, whole, num_four size (search rules)),
      Consumes-trans _ _ _ _ _ first second,
      rw told at c.in_ok-write_line.ensures,
    )
