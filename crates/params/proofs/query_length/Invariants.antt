use Rattle.std.proofs.Common.{◌≡◌}
use Rattle.params.specs.Parameters.{query_length}
use Rattle.params.proofs.query_length.Given as goal

abbrev pub invariant-loop-j : goal.invariant-loop-j
invariant-loop-j l = l.sum ≡ query_length l.p 0 l.j
