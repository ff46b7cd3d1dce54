-- `corpus::read_job`: the job is fed its bytes in parts, and its answer is that of all of them.
use Rattle.std.proofs.Common.{arith, rules}
use Rattle.corpus.proofs.Fed.{fed_none, fed_more, fed_all}
use Rattle.corpus.proofs.read_job.Goals as goal

pub loop-rest-init : goal.loop-rest-init
loop-rest-init g c = fed_none _ _ c.begin-state.ensures

pub returns : goal.returns
returns g c = fed_all c.loop-rest.invariant (omega arith) c.finish.ensures

pub loop-rest-preserved : goal.loop-rest-preserved
loop-rest-preserved g c =
    let (long, took) = rw c.in-Some.is at c.in_ok-bytes.ensures in
    fed_more _ _ _ _ _ _ _ _ _ c.loop-rest.invariant long took c.feed-state.ensures (search rules)
