-- `tree::walk` meets its contract: what is stored and what is left to store are the siblings.
use Prim.Native.Nat.{ℕ, suc, ◌+◌, ◌*◌, ◌-◌, ◌/◌}
use mathlib.Core.List.{List}
use mathlib.Core.Path.{◌≡◌, sym, ap, ◌∙◌}
use native.Mathlib.Omega.{arith}
use lib.ListN.{length, take, drop, length-drop}
use lib.Seq.{sets}
use Rattle.std.proofs.lemmas.List.{take_rest}
use Rattle.tree.specs.Tree.{siblings_in}
use Rattle.tree.proofs.TreeLaws.{xor_sibling}
use Rattle.tree.proofs.Rows.{half_width, width_fits, sibling-fits, index_fits, next_fits, walk_turn, walk_end}
use Rattle.tree.proofs.walk.Goals as goal

pub overflow_mul-sibling : goal.overflow_mul-sibling
overflow_mul-sibling c =
    let l = c.loop-level in
    omega (arith, sibling-fits _ l.level l.index _ c.loop-level-test.true l.invariant.inside l.invariant.rest)

pub overflow_add-sibling : goal.overflow_add-sibling
overflow_add-sibling c =
    let l = c.loop-level in
    omega (arith, sibling-fits _ l.level l.index _ c.loop-level-test.true l.invariant.inside l.invariant.rest)

pub slice_bounds-put-end : goal.slice_bounds-put-end
slice_bounds-put-end c =
    let l = c.loop-level in
    sibling-fits _ l.level l.index _ c.loop-level-test.true l.invariant.inside l.invariant.rest

pub slice_bounds-row-count : goal.slice_bounds-row-count
slice_bounds-row-count c = let l = c.loop-level in width_fits _ _ _ l.invariant.width l.invariant.rest

pub slice_bounds-row-start : goal.slice_bounds-row-start
slice_bounds-row-start c = let l = c.loop-level in omega (arith, width_fits _ _ _ l.invariant.width l.invariant.rest)

pub loop-level-preserved : goal.loop-level-preserved
loop-level-preserved c =
    let l = c.loop-level in
    let row = l.row.now in
    let to = c.args.at + 32 * l.level in
    let next = c.args.at + 32 * (l.level + 1) in
    let d = c.args.height.levels - (l.level + 1) in
    let more : c.args.height.levels - l.level ≡ suc d = omega arith in
    let fits = sibling-fits _ l.level l.index _ c.loop-level-test.true l.invariant.inside l.invariant.rest in
    let above : take (length row - 32 * l.width) (drop (32 * l.width) row) ≡ drop (32 * l.width) row = take_rest row (32 * l.width) in
    record {
      width = half_width _ d more l.invariant.width;
      inside = index_fits _ d l.index more l.invariant.inside;
      within = omega (arith, ap length above, length-drop (32 * l.width) row);
      rest = next_fits _ d l.width row more l.invariant.width l.invariant.rest ∙ sym (ap length above);
      put = ap (λ (x : List ℕ). sets c.put.new.buffer next (siblings_in d x (l.index / 2))) above
          ∙ walk_turn l.buffer row _ d l.index to next _ l.width _ more (omega arith) (xor_sibling l.index) l.invariant.width (omega arith) (omega arith) fits c.put.ensures l.invariant.put;
    }

pub returns : goal.returns
returns c = let l = c.loop-level in walk_end _ _ _ l.index _ (omega arith) l.invariant.put
