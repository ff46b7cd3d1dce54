-- A job of so many bytes that is fed what a reader gives, and its answer.
-- Assumes nothing.
use Rattle.std.proofs.Common.{◌≡◌, ℕ, ◌+◌, ◌-◌, ◌≤◌, List, [], arith, length, length-append}
use Rattle.std.specs.Io.KnownBytes.{Consumes}
use Rattle.std.proofs.KnownBytes.{Consumes-nil}
use Rattle.std.specs.declared.option.Option.{Option}
use Rattle.answer.specs.declared.Answer.{Answer}
use Rattle.message.specs.Bytes.{joined}
use Rattle.message.proofs.Bytes.{joined_snoc}
use Rattle.job.specs.declared.Job.{Job}
use Rattle.job.specs.Chunks.{begun, fed_chunk, finished}
use Rattle.job.proofs.Fed as job
use Rattle.corpus.specs.Jobs.{TakesJob}

-- From what a reader had first to what it has now, the job was fed all bytes that came: of `count` bytes all but `rest`.
pub record Fed (first now : Option (List ℕ)) (state : Job) (count rest : ℕ) : Type 0 where
  pub bytes : job.Fed first now state
  pub size : length (joined bytes.chunks) + rest ≡ count

pub fed_none : (first : Option (List ℕ)) {state : Job} (count : ℕ) → state ≡ begun → Fed first first state count count
unfolding joined
fed_none first count e = record { bytes = record { chunks = []; reached = e; taken = Consumes-nil first }; size = omega arith }

pub fed_more : (first old now : Option (List ℕ)) (state next : Job) (count rest more : ℕ) (chunk : List ℕ) → Fed first old state count rest
    → length chunk ≡ more → Consumes old now chunk → next ≡ fed_chunk state chunk → more ≤ rest → Fed first now next count (rest - more)
fed_more first old now state next count rest more chunk h long took e fits = record {
  bytes = job.fed_more chunk h.bytes took e;
  size = rw (joined_snoc h.bytes.chunks chunk) (omega (arith, h.size, length-append (joined h.bytes.chunks) chunk));
}

pub fed_all : {first now : Option (List ℕ)} {state : Job} {answer : Answer} {count rest : ℕ} → Fed first now state count rest → rest ≡ 0 → answer ≡ finished state
    → TakesJob first now count answer
fed_all h none e = (joined h.bytes.chunks, omega (arith, h.size), h.bytes.taken, job.fed_answer h.bytes e)
