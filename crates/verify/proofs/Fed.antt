-- The answer to a job that was fed what a reader gave, where nothing is left and where the rest cannot change it.
-- Assumes nothing.
use Rattle.std.proofs.Common.{◌≡◌, ℕ, List, ◌++◌, true, None, Some, IfSome, sym, ap, ◌∙◌, append-nil}
use Rattle.std.specs.Io.KnownBytes.{IsAtEnd}
use Rattle.std.specs.declared.option.Option.{Option}
use Rattle.answer.specs.declared.Answer.{Answer}
use Rattle.message.specs.Bytes.{joined}
use Rattle.job.specs.declared.Job.{Job}
use Rattle.job.specs.Job.{job_answer}
use Rattle.job.specs.Chunks.{finished, is_settled}
use Rattle.job.proofs.Laws.{claimed}
use Rattle.job.proofs.Fed.{Fed, fed_answer}

-- Nothing is left.
pub answer_at_end : {first now : Option (List ℕ)} {state : Job} {answer : Answer} → Fed first now state → IsAtEnd now → answer ≡ finished state
    → IfSome first (λ bytes. answer ≡ job_answer bytes)
answer_at_end {first = None} h end e = tt
answer_at_end {first = Some bytes} {now = None} h end e = absurd h.taken
answer_at_end {first = Some bytes} {now = Some rest} h end e =
    fed_answer h e ∙ ap job_answer (sym (h.taken ∙ ap (λ l. joined h.chunks ++ l) end ∙ append-nil (joined h.chunks)))

-- Whatever is left.
pub answer_settled : {first now : Option (List ℕ)} {state : Job} {answer : Answer} → Fed first now state → is_settled state ≡ true → answer ≡ finished state
    → IfSome first (λ bytes. answer ≡ job_answer bytes)
answer_settled {first = None} h f e = tt
answer_settled {first = Some bytes} {now = None} h f e = absurd h.taken
answer_settled {first = Some bytes} {now = Some rest} h f e =
    e ∙ ap finished h.reached ∙ claimed.settles h.chunks (sym (ap is_settled h.reached) ∙ f) rest ∙ ap job_answer (sym h.taken)
