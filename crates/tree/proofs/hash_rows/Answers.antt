-- `tree::hash_rows` meets its contract: what stands and what is left to lay are the tree.
use Prim.Native.Nat.{suc, ◌+◌, ◌-◌}
use mathlib.Core.Path.{◌≡◌, sym, ◌∙◌}
use native.Mathlib.Omega.{arith}
use lib.ListN.{length}
use Rattle.tree.proofs.Rows.{half_width, row_fits, rest_fits, lower_length, row_laid, row_kept, rows_turn, rows_end}
use Rattle.tree.proofs.hash_rows.Goals as goal

pub split_at_mut-below-requires : goal.split_at_mut-below-requires
split_at_mut-below-requires c =
    let l = c.loop in
    let d = c.args.height.levels - (l.counter + 1) in
    let more : c.args.height.levels - l.counter ≡ suc d = omega arith in
    omega (arith, row_fits l.from _ d _ _ more (half_width _ d more l.invariant.width) l.invariant.room)

pub row-requires : goal.row-requires
row-requires c =
    let l = c.loop in
    let d = c.args.height.levels - (l.counter + 1) in
    let more : c.args.height.levels - l.counter ≡ suc d = omega arith in
    let fits = row_fits l.from _ d _ (length l.space) more (half_width _ d more l.invariant.width) l.invariant.room in
    let parts = c.split_at_mut-below.ensures in
    let lower = lower_length l.space l.from _ fits parts.front in
    (omega (arith, lower), omega (arith, lower, fits, parts.back_len))

pub loop-preserved : goal.loop-preserved
loop-preserved c =
    let l = c.loop in
    let d = c.args.height.levels - (l.counter + 1) in
    let more : c.args.height.levels - l.counter ≡ suc d = omega arith in
    let width = half_width _ d more l.invariant.width in
    let fits = row_fits l.from _ d _ (length l.space) more width l.invariant.room in
    let parts = c.split_at_mut-below.ensures in
    let laid = row_laid l.space l.from _ fits parts.front parts.back c.row.ensures in
    record {
      width = width;
      room = rest_fits l.from _ d _ _ more width l.invariant.room ∙ sym (row_kept l.space l.from _ fits parts.front parts.back c.row.ensures);
      laid = rows_turn _ l.from _ d _ more width l.invariant.room laid l.invariant.laid;
    }

pub returns : goal.returns
returns c = let l = c.loop in rows_end _ l.from _ (omega arith) l.invariant.room l.invariant.laid
