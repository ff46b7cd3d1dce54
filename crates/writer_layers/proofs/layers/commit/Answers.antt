-- `writer_layers::layers::commit` meets its contract: the leaves of a layer in front, then the tree over them.
use Rattle.writer_layers.proofs.LayerLaws.{layer-hashed}
use Rattle.writer_layers.proofs.layers.commit.Goals as goal

pub returns : goal.returns
returns c =
    let a = c.args.layer in
    let b = c.build.ensures in
    let r = layer-hashed a.valid.params a.index a.valid.valid a.within c.args.values.now c.args.space.now c.requires.0 c.requires.1 c.values_per_leaf-per.ensures c.height-height.ensures.0 c.hash_leaves.ensures b.value b.space_after in
    record { value = r.0; space_after = r.1 }
