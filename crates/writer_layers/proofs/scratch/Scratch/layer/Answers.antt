-- `writer_layers::scratch::Scratch::layer` meets its contract: its calls, one after the other, are a step of the model.
use Prim.Native.Nat.{◌*◌, ◌^◌, ◌≤◌}
use mathlib.Core.List.{◌++◌}
use mathlib.Core.Path.{refl, sym}
use native.Mathlib.Omega.{arith}
use borrow.Author.Rules.{rules}
use lib.ListN.{length, drop}
use lib.Seq.{length-take-le}
use Rattle.writer_layers.proofs.LayerLaws.{layer_fits, count_fits, values-left, values_kept, values_full, tree_ends, tree_full, root-left, tree_left, fold-left}
use Rattle.writer_layers.proofs.StepLaws.{layer-left}
use Rattle.writer_layers.proofs.scratch.Scratch.layer.Goals as goal

pub slice_bounds-values-end : goal.slice_bounds-values-end
slice_bounds-values-end c =
    let w = c.args.self.now in
    omega (arith, layer_fits w.valid.params.n c.args.index, c.size-size.ensures.0, w.numbers_fit)

pub slice_bounds-values-end-2 : goal.slice_bounds-values-end-2
slice_bounds-values-end-2 c =
    let w = c.args.self.now in
    sym (length-take-le _ _ (omega (arith, layer_fits w.valid.params.n c.args.index, c.size-size.ensures.0, w.numbers_fit)))

pub slice_bounds-commit-end : goal.slice_bounds-commit-end
slice_bounds-commit-end c =
    let w = c.args.self.now in
    let evaluated = values-left w.valid.params c.args.index w.valid.valid c.requires.layer_in w.numbers.now w.numbers_fit c.size-size.ensures.0 c.count-count.ensures.0 c.values.ensures in
    omega (arith, layer_fits w.valid.params.n c.args.index, c.size-size.ensures.0, w.numbers_fit, values_kept w.valid.params c.args.index w.numbers.now evaluated)

pub slice_bounds-commit-end-2 : goal.slice_bounds-commit-end-2
slice_bounds-commit-end-2 c =
    let w = c.args.self.now in
    tree_ends w.valid.params c.args.index w.valid.valid c.requires.layer_in c.size-size.ensures.0 c.leaves.ensures.0 w.bytes.now w.bytes_fit

pub commit-root-requires : goal.commit-root-requires
commit-root-requires c =
    let w = c.args.self.now in
    let p = w.valid.params in
    let numbers = c.values.new.room ++ drop (2 * c.size-size.result) w.numbers.now in
    let evaluated = values-left p c.args.index w.valid.valid c.requires.layer_in w.numbers.now w.numbers_fit c.size-size.ensures.0 c.count-count.ensures.0 c.values.ensures in
    let long : 2 * 2 ^ p.n ≤ length numbers = omega (arith, w.numbers_fit, values_kept p c.args.index w.numbers.now evaluated) in (
      values_full p c.args.index w.valid.valid c.requires.layer_in c.size-size.ensures.0 c.leaves.ensures.0 numbers long,
      tree_full p c.args.index w.valid.valid c.requires.layer_in c.size-size.ensures.0 c.leaves.ensures.0 w.bytes.now w.bytes_fit,
    )

pub slice_bounds-fold-end : goal.slice_bounds-fold-end
slice_bounds-fold-end c =
    let w = c.args.self.now in
    let p = w.valid.params in
    let evaluated = values-left p c.args.index w.valid.valid c.requires.layer_in w.numbers.now w.numbers_fit c.size-size.ensures.0 c.count-count.ensures.0 c.values.ensures in
    omega (arith, layer_fits p.n c.args.index, count_fits p c.args.index w.valid.valid c.requires.layer_in, c.count-count.ensures.0, w.numbers_fit, values_kept p c.args.index w.numbers.now evaluated)

pub slice_bounds-fold-end-2 : goal.slice_bounds-fold-end-2
slice_bounds-fold-end-2 c =
    let w = c.args.self.now in
    let p = w.valid.params in
    let evaluated = values-left p c.args.index w.valid.valid c.requires.layer_in w.numbers.now w.numbers_fit c.size-size.ensures.0 c.count-count.ensures.0 c.values.ensures in
    sym (length-take-le _ _ (omega (arith, layer_fits p.n c.args.index, count_fits p c.args.index w.valid.valid c.requires.layer_in, c.count-count.ensures.0, w.numbers_fit, values_kept p c.args.index w.numbers.now evaluated)))

pub returns : goal.returns
returns c =
    let w = c.args.self.now in
    let p = w.valid.params in
    let j = c.args.index in
    let v = w.valid.valid in
    let h = c.requires.layer_in in
    let e = c.size-size.ensures.0 in
    let f = c.leaves.ensures.0 in
    let k = c.count-count.ensures.0 in
    let numbers = c.values.new.room ++ drop (2 * c.size-size.result) w.numbers.now in
    let evaluated = values-left p j v h w.numbers.now w.numbers_fit e k c.values.ensures in
    let long : 2 * 2 ^ p.n ≤ length numbers = omega (arith, w.numbers_fit, values_kept p j w.numbers.now evaluated) in
    let root = root-left p j v h e f w.bytes.now w.bytes_fit numbers long c.commit-root.ensures.value in
    let tree = tree_left p j v h e f w.bytes.now w.bytes_fit numbers long c.commit-root.ensures.space_after in
    let folded = fold-left p j v h numbers long c.challenge-beta.result k c.fold.ensures in
    let r = layer-left p j w.numbers.now w.bytes.now c.args.file.now c.args.s.state h c.requires.room (search rules) evaluated root tree c.root_offset.ensures c.put.ensures c.absorb_root-next.ensures c.challenge-beta.ensures folded in
    record { state_value = r.0; numbers_after = r.1.0; bytes_after = r.1.1.0; file_after = r.1.1.1; valid_kept = refl }
