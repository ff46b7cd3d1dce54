-- `writer_layers::scratch::Layer::leaves` meets its contract: a tree has 2 to its height leaves.
use mathlib.Core.Path.{ap, ◌∙◌}
use Prim.Native.Nat.{◌^◌}
use Rattle.binary.proofs.BinaryLaws.{power_made}
use Rattle.writer_layers.proofs.scratch.Layer.leaves.Goals as goal

pub returns : goal.returns
returns c =
    let count = power_made _ c.height.ensures.1 c.power_of_two.ensures in
    (count.0 ∙ ap (λ d. 2 ^ d) c.height.ensures.0, count.1)
