-- Calls, lists of calls, readers, and what a reader answers to a list of calls and leaves after it.
use Rattle.std.specs.Prelude.{ℕ, ◌<◌, Bool, true, false, cond, get_or, List, [], ◌∷◌, ◌++◌}
use mathlib.Core.List.{foldl}
use Rattle.answer.specs.declared.Answer.{Answer}
use Rattle.answer.specs.Table.{answered, open_so_far, accepted}

-- The two calls that work on an opened reader: a piece, of any bytes or none, and the end call.
pub data Call : Type 0 where
  piece : List ℕ → Call
  end : Call

-- Whether a list has an end call.
abbrev pub has_end : List Call → Bool
has_end [] = false
has_end (piece bs ∷ cs) = has_end cs
has_end (end ∷ cs) = true

-- Whether a list has one end call, as its last call.
abbrev pub ends_once : List Call → Bool
ends_once [] = false
ends_once (piece bs ∷ cs) = ends_once cs
ends_once (end ∷ []) = true
ends_once (end ∷ (c ∷ cs)) = false

-- The bytes joined before the first end call, or in all if there is none.
abbrev pub joined : List Call → List ℕ
joined [] = []
joined (piece bs ∷ cs) = bs ++ joined cs
joined (end ∷ cs) = []

-- Those bytes whole, in one piece, with an end call after it if the list has one.
abbrev pub in_one_piece : List Call → List Call
in_one_piece cs = piece (joined cs) ∷ cond (has_end cs) (end ∷ []) []

-- A reader whose states are of type S: the state that opening left; for a piece and for the end call, the next state and the answer.
pub record Reader (S : Type 0) : Type 0 where
  pub opened : S
  pub piece_next : S → List ℕ → S
  pub piece_answer : S → List ℕ → Answer
  pub end_next : S → S
  pub end_answer : S → Answer

module _ {S : Type 0} (r : Reader S) where
  abbrev pub next : S → Call → S
  next s (piece bs) = r.piece_next s bs
  next s end = r.end_next s

  abbrev pub reply : S → Call → Answer
  reply s (piece bs) = r.piece_answer s bs
  reply s end = r.end_answer s

  -- The state that a list of calls leaves, and the answers to it, from the state s on: each call gets the state that the one before it left.
  abbrev pub state_after : S → List Call → S
  state_after s cs = foldl next s cs

  abbrev pub answers : S → List Call → List Answer
  answers s [] = []
  answers s (c ∷ cs) = reply s c ∷ answers (next s c) cs

-- The last of a list of answers; a if it is empty.
abbrev pub last_or : Answer → List Answer → Answer
last_or a [] = a
last_or a (b ∷ more) = last_or b more

-- The same from the opened state on: the state left, the answers given, answer number i, counted from 0, and the last one. Where there is no such
-- answer, 0 at 0 stands for it.
module _ {S : Type 0} (r : Reader S) (cs : List Call) where
  abbrev pub state_left : S
  state_left = state_after r r.opened cs

  abbrev pub given : List Answer
  given = answers r r.opened cs

  abbrev pub nth : ℕ → Answer
  nth i = get_or given i (answered open_so_far 0)

  abbrev pub last_given : Answer
  last_given = last_or (answered open_so_far 0) given

-- Every number but open_so_far and accepted is a refusal.
abbrev pub Refuses : Answer → Type 0
Refuses a = accepted < a.number

-- A reader that goes byte by byte: `step` is one byte, `says` the answer to a piece that leaves this state, `ends` that to the end call, which leaves
-- the state `shut`.
abbrev pub by_byte : {S : Type 0} → S → (S → ℕ → S) → (S → Answer) → (S → Answer) → S → Reader S
by_byte opened step says ends shut = record {
  opened = opened;
  piece_next = λ s bs. foldl step s bs;
  piece_answer = λ s bs. says (foldl step s bs);
  end_next = λ s. shut;
  end_answer = λ s. ends s;
}
