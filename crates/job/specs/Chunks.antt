-- A job fed in chunks, as the calls do it, and what is claimed of it for every list of chunks. Only the claim needs to be believed: the rest stands
-- between two proved statements, the contracts and the claim.
use Rattle.std.specs.Prelude.{ℕ, ◌+◌, ◌-◌, Bool, true, cond, ◌&&◌, ◌≡◌, eqb, leb, ltb, set, replicate, List, ◌++◌}
use mathlib.Core.List.{foldl}
use Rattle.answer.specs.declared.Answer.{Answer}
use Rattle.answer.specs.Table.{answered, open_so_far, job_too_short}
use Rattle.params.specs.Admission.{admission_of}
use Rattle.sha256.specs.Sha256.{sha256}
use Rattle.message.specs.Bytes.{joined}
use Rattle.reader_model.specs.declared.Reader.{Reader}
use Rattle.reader_model.specs.State.{closed_state}
use Rattle.reader_model.specs.Model.{opened, step, ended, is_stopped}
use Rattle.job.specs.declared.Job.{Job}
use Rattle.job.specs.Job.{head_size, terms_in, job_answer}

-- The reader that a whole head opens.
unfoldable pub opened_by : List ℕ → Reader
opened_by head = (opened sha256 (terms_in head)).state

-- No byte came yet.
unfoldable pub begun : Job
begun = record { got = 0; head = replicate head_size 0; reader = closed_state }

-- One byte more: of the head, whose last byte opens the reader, or of the proof.
unfoldable pub taken : Job → ℕ → Job
taken j x =
    cond (ltb j.got head_size)
    (record {
      got = j.got + 1;
      head = set j.head j.got x;
      reader = cond (eqb j.got (head_size - 1)) (opened_by (set j.head j.got x)) j.reader;
    })
    (record { got = j.got; head = j.head; reader = step sha256 j.reader x })

-- A chunk more.
unfoldable pub fed_chunk : Job → List ℕ → Job
fed_chunk j chunk = foldl taken j chunk

-- The answer, if the job ends here.
unfoldable pub finished : Job → Answer
finished j =
    cond (ltb j.got head_size) (answered job_too_short j.got)
    (cond (eqb (admission_of (terms_in j.head)) open_so_far) (ended j.reader).answer (answered (admission_of (terms_in j.head)) 0))

-- The head is whole, and its reader is refused or closed.
unfoldable pub is_settled : Job → Bool
is_settled j = leb head_size j.got && is_stopped j.reader.core.stage

-- The job after some chunks.
abbrev pub job_after : List (List ℕ) → Job
job_after chunks = foldl fed_chunk begun chunks

pub record Claim : Type 0 where
  -- The answer after any chunks is the answer to their bytes joined: it hangs on the bytes alone, and on all of them.
  pub answers : (chunks : List (List ℕ)) → finished (job_after chunks) ≡ job_answer (joined chunks)
  -- Of a settled job it is the answer to these bytes and any more.
  pub settles : (chunks : List (List ℕ)) → is_settled (job_after chunks) ≡ true → (more : List ℕ)
      → finished (job_after chunks) ≡ job_answer (joined chunks ++ more)
