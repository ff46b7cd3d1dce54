-- `writer_layers::scratch::Scratch::opening` meets its contract: a leaf's values and its path, one after the other.
use native.Mathlib.Omega.{arith}
use Rattle.writer_layers.proofs.LayerLaws.{layer_fits, leaves_full, tree_ends}
use Rattle.writer_layers.proofs.QueryLaws.{opening_left}
use Rattle.writer_layers.proofs.scratch.Scratch.opening.Goals as goal

pub slice_bounds-put_values-end : goal.slice_bounds-put_values-end
slice_bounds-put_values-end c = omega (arith, layer_fits c.args.self.now.valid.params.n c.args.index, c.size-size.ensures.0)

pub put_values-requires : goal.put_values-requires
put_values-requires c =
    let s = c.args.self.now in
    let f = c.leaves-count.ensures.0 in
    let per = c.values_per_leaf.ensures in (
      (omega (arith, f, c.requires.leaf_in), c.leaves-count.ensures.1.1),
      (leaves_full s.valid.params c.args.index s.valid.valid c.requires.layer_in c.size-size.ensures.0 f s.numbers.now s.numbers_fit per, omega (arith, per, c.requires.room)),
    )

pub slice_bounds-put_path-end : goal.slice_bounds-put_path-end
slice_bounds-put_path-end c =
    let s = c.args.self.now in
    tree_ends s.valid.params c.args.index s.valid.valid c.requires.layer_in c.size-size.ensures.0 c.leaves-count.ensures.0 s.bytes.now s.bytes_fit

pub returns : goal.returns
returns c =
    let a = c.args in
    let s = a.self.now in
    opening_left s.valid.params a.index a.m s.valid.valid c.requires.layer_in c.requires.leaf_in s.numbers.now s.bytes.now s.numbers_fit s.bytes_fit a.file.now a.at c.requires.room
    c.size-size.ensures.0 c.leaves-count.ensures.0 c.values_per_leaf.ensures c.height.ensures.0 c.leaf_length.ensures c.put_values.ensures c.put_path.ensures
