-- `writer_layers::scratch::Scratch::query` meets its contract: after j turns the openings of j layers stand in the file.
use native.Mathlib.Omega.{arith}
use lib.ListN.{length}
use Rattle.params.specs.Parameters.{query_length}
use Rattle.writer_layers.proofs.QueryLaws.{openings_none, openings_more, openings_done, leaf-below, opening_room, opening_next}
use Rattle.writer_layers.proofs.scratch.Scratch.query.Goals as goal

pub loop-index-init : goal.loop-index-init
unfolding query_length
loop-index-init c = record { place = omega arith; put = openings_none _ _ _ _ _ _ }

pub opening-requires : goal.opening-requires
opening-requires c =
    let a = c.args in
    let p = a.self.now.valid.params in
    let l = c.loop-index in
    let more = c.loop-index-test.true in
    record {
      layer_in = more;
      leaf_in = leaf-below p l.index a.m c.leaf_of-leaf.ensures;
      room = omega (arith, opening_room p a.at l.index (length a.file.now) more l.invariant.place c.requires);
    }

pub overflow_add-to : goal.overflow_add-to
overflow_add-to c =
    let a = c.args in
    let l = c.loop-index in
    record { fits = omega (arith, opening_room a.self.now.valid.params a.at l.index (length a.file.now) c.loop-index-test.true l.invariant.place c.requires, c.opening_length-to.ensures) }

pub loop-index-preserved : goal.loop-index-preserved
loop-index-preserved c =
    let a = c.args in
    let s = a.self.now in
    let p = s.valid.params in
    let l = c.loop-index in
    record {
      place = opening_next p a.at l.index l.invariant.place c.opening_length-to.ensures;
      put = openings_more p s.valid.valid s.numbers.now s.bytes.now s.bytes_fit a.m a.file.now a.at _ l.index _ c.loop-index-test.true l.invariant.place c.leaf_of-leaf.ensures l.invariant.put c.opening.ensures;
    }

pub returns : goal.returns
returns c =
    let a = c.args in
    let s = a.self.now in
    openings_done s.valid.params s.valid.valid s.numbers.now s.bytes.now s.bytes_fit a.m a.file.now a.at c.loop-index.index (omega arith) c.loop-index.invariant.put
