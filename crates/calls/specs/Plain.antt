-- The plain reader of document 01: it keeps all bytes given so far, and judges them anew at each call.
use Rattle.std.specs.Prelude.{ℕ, zero, suc, Bool, true, false, cond, List, [], ◌++◌, length, take}
use Rattle.std.proofs.Math.Option.{Option, none, some}
use Rattle.std.proofs.Math.Option as option
use Rattle.answer.specs.declared.Answer.{Answer}
use Rattle.answer.specs.Table.{answered, open_so_far, accepted, closed, too_few_bytes}
use Rattle.calls.specs.Calls.{Reader}

-- It holds the bytes joined so far, and whether it is closed.
pub data Plain : Type 0 where
  holds : List ℕ → Bool → Plain

-- What it asks of the table of refusals and of the layout.
pub record Table : Type 0 where
  -- the number of the refusal that the last of these bytes decides, given the bytes before it; none if it decides none
  pub refusal : List ℕ → Option ℕ
  -- whether these bytes are as many as the file has
  pub whole : List ℕ → Bool

-- The first if there is one, else the second.
abbrev pub or_else : Option Answer → Option Answer → Option Answer
or_else none r = r
or_else (some a) r = some a

module _ (t : Table) where
  -- The refusal that byte d of bs decides, counted from 1, at its place.
  abbrev pub decided_by : ℕ → List ℕ → Option Answer
  decided_by d bs = option.map (λ number. answered number d) (t.refusal (take d bs))

  -- The refusal of the earliest of the first d bytes that decides one; and of all bytes.
  abbrev pub earliest : ℕ → List ℕ → Option Answer
  earliest zero bs = none
  earliest (suc d) bs = or_else (earliest d bs) (decided_by (suc d) bs)

  unfoldable pub decide : List ℕ → Option Answer
  decide bs = earliest (length bs) bs

  -- The answer to a piece, where bs are the bytes joined: the earliest refusal if there is one, else 0 at their number.
  unfoldable pub after_piece : List ℕ → Answer
  after_piece bs = option.get_or (decide bs) (answered open_so_far (length bs))

  -- The answer to the end call: the earliest refusal if there is one, else 1 at their number if they are a whole file, and 26 there if not.
  unfoldable pub after_end : List ℕ → Answer
  after_end bs = option.get_or (decide bs) (answered (cond (t.whole bs) accepted too_few_bytes) (length bs))

-- A piece: when closed, 11 at 0 and nothing changes; else its bytes are joined on at the end, after a refusal too.
abbrev pub join_on : Plain → List ℕ → Plain
join_on (holds bs true) xs = holds bs true
join_on (holds bs false) xs = holds (bs ++ xs) false

abbrev pub reply_to_piece : Table → Plain → List ℕ → Answer
reply_to_piece t (holds bs true) xs = answered closed 0
reply_to_piece t (holds bs false) xs = after_piece t (bs ++ xs)

-- The end call: when closed, 11 at 0 and nothing changes; else it is closed then.
abbrev pub close : Plain → Plain
close (holds bs isClosed) = holds bs true

abbrev pub reply_to_end : Table → Plain → Answer
reply_to_end t (holds bs true) = answered closed 0
reply_to_end t (holds bs false) = after_end t bs

-- At first it holds no bytes, and is closed exactly if the opening is refused.
abbrev pub plain : Table → Bool → Reader Plain
plain t refused = record {
  opened = holds [] refused;
  piece_next = join_on;
  piece_answer = reply_to_piece t;
  end_next = close;
  end_answer = reply_to_end t;
}
