-- `writer_layers::scratch::Layer::size` meets its contract: a layer's size is a power of two.
use native.Mathlib.Omega.{arith}
use Rattle.polynomial.proofs.PolynomialLaws.{size_made}
use Rattle.writer_layers.proofs.scratch.Layer.size.Goals as goal

pub returns : goal.returns
returns c = size_made _ _ (omega arith) c.power_of_two.ensures
