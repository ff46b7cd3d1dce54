-- The lines of the checkpoints so far were written, and the seed is the last of them.
use Rattle.vectors.proofs.Checkpoints.{Told}
use Rattle.vectors.proofs.run_monte.Given as goal

abbrev pub invariant-loop : goal.invariant-loop
invariant-loop g l = Told (g.W.Write.contents l.initial.out) (g.W.Write.contents l.out) l.initial.seed l.seed l.counter
