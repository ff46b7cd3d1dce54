-- `verify::judge`: the job is fed what each read gave; where the input ends, or the job is settled, its answer is that of all the bytes.
use Rattle.std.proofs.Common.{arith, sym, ◌∙◌}
use Rattle.job.proofs.Fed.{Fed, fed_none, fed_more}
use Rattle.verify.proofs.Fed.{answer_at_end, answer_settled}
use Rattle.verify.proofs.judge.Goals as goal
use Rattle.verify.proofs.judge.Goals.{then-n-eq0-via-then-n-eq0, then-n-eq0-via-else-n-eq0+then-settled}

pub loop-init : goal.loop-init
loop-init g c = fed_none _ c.begin-state.ensures

pub loop-preserved : goal.loop-preserved
loop-preserved g c = fed_more _ c.loop.invariant c.in_ok-n.ensures.bytes.0 c.feed-state.ensures

pub returns-then-n-eq0 : goal.returns-then-n-eq0
returns-then-n-eq0 g c =
    let fed : Fed (g.R.Read.remaining c.args.input.now) (g.R.Read.remaining c.read_again.new.input) c.feed-state.result
    = fed_more _ c.loop.invariant c.in_ok-n.ensures.bytes.0 c.feed-state.ensures in
    elim c.then-n-eq0.branch [
      | then-n-eq0-via-then-n-eq0 w ↦ answer_at_end fed (c.in_ok-n.ensures.bytes.1 w.if-n-eq0.true (omega arith)) c.finish.ensures
      | then-n-eq0-via-else-n-eq0+then-settled w ↦ answer_settled fed (sym w.settled.ensures ∙ w.if-settled.true) c.finish.ensures
    ]
