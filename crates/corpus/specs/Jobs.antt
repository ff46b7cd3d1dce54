-- What is done with a job of the file: its bytes are taken, and its line is told.
use Rattle.std.specs.Prelude.{◌≡◌, ℕ, List, ◌++◌, length}
use Rattle.std.specs.declared.option.Option as rust
use Rattle.std.specs.Io.KnownBytes.{Consumes, Appends}
use Rattle.answer.specs.declared.Answer.{Answer}
use Rattle.message.specs.Bytes.{num}
use Rattle.job.specs.Job.{job_answer}
use Rattle.line.specs.Line.{line_of}

-- From what a reader had to what it has now it gave a job of so many bytes, whose answer this is.
abbrev pub TakesJob : rust.Option (List ℕ) → rust.Option (List ℕ) → ℕ → Answer → Type 0
TakesJob before after count answer = (job : List ℕ) × (length job ≡ count) × Consumes before after job × (answer ≡ job_answer job)

-- A job was taken, after its length in 4 bytes, and its line was written.
abbrev pub TellsJob : rust.Option (List ℕ) → rust.Option (List ℕ) → rust.Option (List ℕ) → rust.Option (List ℕ) → Type 0
TellsJob before after old new =
    (size : List ℕ) × (length size ≡ 4) × (job : List ℕ) × (length job ≡ num size) × Consumes before after (size ++ job) × Appends old new (line_of (job_answer job))
