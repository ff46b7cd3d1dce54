-- `writer_layers::queries::put_values` meets its contract: after r turns the first r values of the leaf stand in the file.
use native.Mathlib.Omega.{arith}
use Rattle.writer_layers.proofs.QueryLaws.{values_none, values-more}
use Rattle.writer_layers.proofs.queries.put_values.Goals as goal

pub loop-r-init : goal.loop-r-init
loop-r-init c = values_none _ _ _ _ _

pub loop-r-preserved : goal.loop-r-preserved
loop-r-preserved c =
    let a = c.args in
    values-more a.file.now a.values.now a.at a.count a.m c.loop-r.r c.loop-r.invariant c.put_number.ensures (omega arith)
