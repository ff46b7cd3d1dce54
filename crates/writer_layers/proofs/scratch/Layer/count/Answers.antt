-- `writer_layers::scratch::Layer::count` meets its contract.
use native.Mathlib.Omega.{arith}
use Rattle.binary.proofs.BinaryLaws.{power_made}
use Rattle.writer_layers.proofs.scratch.Layer.count.Goals as goal

pub returns : goal.returns
returns c =
    let count = power_made _ (omega arith) c.power_of_two.ensures in
    (count.0, count.1.1)
