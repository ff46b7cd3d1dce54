-- The last three digests after the turns so far.
use Rattle.std.proofs.Common.{◌≡◌}
use Rattle.vectors.proofs.MonteLaws.{last_three}
use Rattle.vectors.proofs.checkpoint.Given as goal

abbrev pub invariant-loop : goal.invariant-loop
invariant-loop l = l.last ≡ last_three l.fn.seed l.counter
