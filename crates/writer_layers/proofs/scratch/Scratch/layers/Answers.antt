-- `writer_layers::scratch::Scratch::layers` meets its contract: after j turns j layers are done.
use mathlib.Core.Path.{refl, ◌∙◌}
use Rattle.writer_layers.proofs.StepLaws.{after_none, after_more}
use Rattle.writer_layers.proofs.scratch.Scratch.layers.Goals as goal

pub loop-index-init : goal.loop-index-init
loop-index-init c = record { valid_kept = refl; done = after_none _ _ _ _ _ }

pub loop-index-preserved : goal.loop-index-preserved
loop-index-preserved c =
    let l = c.loop-index in
    let same = l.invariant.valid_kept in
    let state = rw same at c.layer-t.ensures.state_value in
    let numbers = rw same at c.layer-t.ensures.numbers_after in
    let bytes = rw same at c.layer-t.ensures.bytes_after in
    let file = rw same at c.layer-t.ensures.file_after in
    record {
      valid_kept = c.layer-t.ensures.valid_kept ∙ same;
      done = after_more _ _ l.index l.invariant.done state numbers bytes file;
    }
