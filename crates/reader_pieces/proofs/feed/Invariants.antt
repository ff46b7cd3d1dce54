use mathlib.Core.Path.{◌≡◌}
use lib.ListN.{length}
use Rattle.sha256.specs.Sha256.{sha256}
use Rattle.reader_model.specs.State.{whole}
use Rattle.reader_model.specs.Model.{fed}
use Rattle.reader_pieces.proofs.feed.Given as goal

-- What is left, fed to the state so far, gives what the whole piece gives.
abbrev pub invariant-loop-rest : goal.invariant-loop-rest
invariant-loop-rest l =
    fed sha256 (whole l.initial.c l.initial.roots l.initial.challenges l.initial.coefficients) l.initial.rest
    ≡ fed sha256 (whole l.c l.roots l.challenges l.coefficients) l.rest

abbrev pub decreases-loop-rest : goal.decreases-loop-rest
decreases-loop-rest l = length l.rest
