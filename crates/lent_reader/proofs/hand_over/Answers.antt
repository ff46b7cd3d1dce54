-- `lent_reader::hand_over` meets its contract.
use mathlib.Core.Path.{refl}
use Rattle.lent_reader.proofs.Laws.{outcome_by}
use Rattle.lent_reader.proofs.hand_over.Goals as goal

pub returns : goal.returns
returns c = outcome_by _ _ _ c.keep.ensures refl
