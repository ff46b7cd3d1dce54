-- The table that a process gives: which byte decides a refusal, and when the bytes are a whole file.
use Rattle.std.specs.Prelude.{ℕ, ◌+◌, Bool, true, false, cond, [], ◌∷◌, eqb, length}
use Rattle.std.proofs.Math.Option.{Option, none, some}
use Rattle.answer.specs.declared.Answer.{Answer}
use Rattle.answer.specs.Table.{answered, byte_after_the_end}
use Rattle.fri.specs.Process.{Process, Result, run, short, refused, ended}
use Rattle.calls.specs.Plain.{Table}

-- The refusal that bytes come to, if they come to one. A byte after the end is refused too.
abbrev pub refusal_of : Result → Option Answer
refusal_of short = none
refusal_of (refused number place) = some (answered number place)
refusal_of (ended [] place) = none
refusal_of (ended (x ∷ xs) place) = some (answered byte_after_the_end (place + 1))

-- Its number, if its place is d.
abbrev pub number_at : ℕ → Option Answer → Option ℕ
number_at d none = none
number_at d (some a) = cond (eqb a.place d) (some a.number) none

-- The bytes are exactly those of a file.
abbrev pub is_whole : Result → Bool
is_whole short = false
is_whole (refused number place) = false
is_whole (ended [] place) = true
is_whole (ended (x ∷ xs) place) = false

-- The last of the bytes bs decides a refusal if they come to one at their number.
abbrev pub table_of : Process → Table
table_of p = record { refusal = λ bs. number_at (length bs) (refusal_of (run p bs 0)); whole = λ bs. is_whole (run p bs 0) }
