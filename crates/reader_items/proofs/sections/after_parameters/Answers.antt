-- `reader_items::sections::after_parameters` meets its contract.
use mathlib.Core.Path.{sym, ◌∙◌}
use Rattle.reader_model.specs.Items.{after_parameters}
use Rattle.reader_model.proofs.Choice.{taken}
use Rattle.reader_items.proofs.Bytes.{begins_with_header}
use Rattle.reader_items.proofs.sections.after_parameters.Goals as goal

pub returns-then-starts_with : goal.returns-then-starts_with
unfolding after_parameters
returns-then-starts_with c =
    c.moved.ensures ∙ taken _ (sym (begins_with_header _ _ c.header.ensures c.starts_with.ensures.value) ∙ c.if-starts_with.true)
