-- `vectors::run_message`: a message after its length, and its line.
use Rattle.std.proofs.Common.{rules, arith}
use Rattle.std.proofs.KnownBytes.{Consumes-trans}
use Rattle.vectors.proofs.run_message.Goals as goal

pub returns : goal.returns
returns g c =
    let first = rw c.in-Some.is at c.in_ok-size.ensures in
    let (long, second) = rw c.in-Some-2.is at c.in_ok-message.ensures in
    λ _. (
      c.in-Some.size,
      c.in-Some-2.message.now,
      search rules,
      omega (arith, long, c.from_le_bytes-len.ensures),
      Consumes-trans _ _ _ _ _ first second,
      rw c.hash.ensures at c.in_ok-print_hashed.ensures,
    )
