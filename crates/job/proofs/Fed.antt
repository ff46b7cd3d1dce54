-- A job that was fed what a reader gave, and its answer.
-- Assumes nothing.
use Rattle.std.proofs.Common.{◌≡◌, ℕ, List, [], ◌∷◌, ◌++◌, sym, ap, ◌∙◌, subst}
use mathlib.Core.List.{foldl-append}
use Rattle.std.specs.Io.KnownBytes.{Consumes}
use Rattle.std.proofs.KnownBytes.{Consumes-nil, Consumes-trans}
use Rattle.std.specs.declared.option.Option.{Option}
use Rattle.answer.specs.declared.Answer.{Answer}
use Rattle.message.specs.Bytes.{joined}
use Rattle.message.proofs.Bytes.{joined_snoc}
use Rattle.job.specs.declared.Job.{Job}
use Rattle.job.specs.Job.{job_answer}
use Rattle.job.specs.Chunks.{begun, fed_chunk, finished, job_after}
use Rattle.job.proofs.Laws.{claimed}

-- From what a reader had first to what it has now, the job was fed all bytes that came.
pub record Fed (first now : Option (List ℕ)) (state : Job) : Type 0 where
  pub chunks : List (List ℕ)
  pub reached : state ≡ job_after chunks
  pub taken : Consumes first now (joined chunks)

abbrev pub fed_none : (first : Option (List ℕ)) {state : Job} → state ≡ begun → Fed first first state
unfolding joined
fed_none first e = record { chunks = []; reached = e; taken = Consumes-nil first }

abbrev pub fed_more : {first old now : Option (List ℕ)} {state next : Job} (chunk : List ℕ) → Fed first old state → Consumes old now chunk
    → next ≡ fed_chunk state chunk → Fed first now next
fed_more {first} {old} {now} {state} chunk h more e = record {
  chunks = h.chunks ++ (chunk ∷ []);
  reached = e ∙ ap (λ s. fed_chunk s chunk) h.reached ∙ sym (foldl-append fed_chunk begun h.chunks (chunk ∷ []));
  taken = subst (Consumes first now) (sym (joined_snoc h.chunks chunk)) (Consumes-trans first old now (joined h.chunks) chunk h.taken more);
}

-- The answer, if the job ends here, is that to all bytes that came.
pub fed_answer : {first now : Option (List ℕ)} {state : Job} {answer : Answer} (h : Fed first now state) → answer ≡ finished state
    → answer ≡ job_answer (joined h.chunks)
fed_answer h e = e ∙ ap finished h.reached ∙ claimed.answers h.chunks
