-- `call_lists::run_opened`: the word, the opening's answer and the lines of the calls.
use Rattle.std.proofs.Common.{ap}
use Rattle.reader_model.specs.declared.Reply.{Reply}
use Rattle.call_lists.proofs.Running.{opened_by_calls}
use Rattle.call_lists.proofs.run_opened.Goals as goal

pub returns : goal.returns
returns g c =
    opened_by_calls _ _ _ _ _ _ _ _ _ _ _ (ap (λ (x : Reply). x.answer) c.open-opened.ensures) (ap (λ (x : Reply). x.state) c.open-opened.ensures)
    c.in_ok-write_all.ensures.bytes c.in_ok-print_answer.ensures c.run_calls.ensures
