-- `writer_layers::scratch::Scratch::queries` meets its contract: after i turns i queries stand in the file.
use native.Mathlib.Omega.{arith}
use Rattle.writer_layers.proofs.QueryLaws.{opened_none, opened-more, opened-done, query-next}
use Rattle.writer_layers.proofs.scratch.Scratch.queries.Goals as goal

pub loop-i-init : goal.loop-i-init
loop-i-init c = record { place = omega arith; put = opened_none _ _ _ _ _ _ }

pub loop-i-preserved : goal.loop-i-preserved
loop-i-preserved c =
    let a = c.args in
    let s = a.self.now in
    let l = c.loop-i in
    record {
      place = query-next a.at l.i _ l.invariant.place c.query_length-size.ensures;
      put = opened-more s.valid.params s.valid.valid s.numbers.now s.bytes.now s.bytes_fit a.s.state a.file.now a.at _ l.i _ l.invariant.place c.draw.ensures l.invariant.put c.query.ensures;
    }

pub returns : goal.returns
returns c =
    let a = c.args in
    let s = a.self.now in
    opened-done s.valid.params s.valid.valid s.numbers.now s.bytes.now s.bytes_fit a.s.state a.file.now a.at c.loop-i.i (omega arith) c.loop-i.invariant.put
