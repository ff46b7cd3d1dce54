-- The third demand, of any reader and any table: one claim about a list of calls as a whole. And document 01's rules on two inputs that agree up to
-- some byte, on the states of refused and closed readers, and on the file's size.
use Rattle.std.specs.Prelude.{ℕ, suc, ◌≤◌, ◌<◌, true, false, List, ◌++◌, ◌≡◌, length, take}
use Rattle.std.proofs.Math.Option.{Option, some}
use Rattle.answer.specs.declared.Answer.{Answer}
use Rattle.answer.specs.Table.{answered, open_so_far, accepted, closed}
use Rattle.calls.specs.Calls.{Call, has_end, ends_once, joined, in_one_piece, Reader, next, state_left, given, nth, last_given, Refuses}
use Rattle.calls.specs.Plain.{Table, plain}

-- Two lists of calls bring the same bytes before the first end call, if there is one, and both or neither have an end call.
pub record Alike (cs ds : List Call) : Type 0 where
  pub bytes : joined cs ≡ joined ds
  pub ends : has_end cs ≡ has_end ds

-- The demand, of the list cs on the freshly opened reader r. Nothing is asked of the list: calls may stand in any order, also after a refusal.
pub record Demand3 {S : Type 0} (t : Table) (r : Reader S) (cs : List Call) : Type 0 where
  -- Every answer, its number and its place, is the one that the plain reader gives in the same list.
  pub plainly : given r cs ≡ given (plain t false) cs
  -- Any second list alike leaves the same state.
  pub states : (ds : List Call) → Alike cs ds → state_left r cs ≡ state_left r ds
  -- Where both lists close with their only end call, that call gets the same answer in both.
  pub lasts : (ds : List Call) → Alike cs ds → ends_once cs ≡ true → ends_once ds ≡ true → last_given r cs ≡ last_given r ds
  -- One piece with all those bytes, and then an end call if cs has one, is such a second list.
  pub whole : Alike cs (in_one_piece cs)
  -- Once a piece is refused, every call after it gets that refusal, up to the first end call and in it.
  pub repeated : (i j : ℕ) → i < j → j < length cs → has_end (take j cs) ≡ false → Refuses (nth r cs i) → nth r cs j ≡ nth r cs i
  -- Every call after the first end call gets 11 at 0.
  pub after_end_lem : (j : ℕ) → j < length cs → has_end (take j cs) ≡ true → nth r cs j ≡ answered closed 0

-- The answer to the piece xs after the calls cs.
abbrev pub to_piece : {S : Type 0} → Reader S → List Call → List ℕ → Answer
to_piece r cs xs = r.piece_answer (state_left r cs) xs

-- The bytes bs come in the pieces cs, among which is no end call, and last the piece xs.
pub record InPieces (bs : List ℕ) (cs : List Call) (xs : List ℕ) : Type 0 where
  pub no_end : has_end cs ≡ false
  pub bytes : joined cs ++ xs ≡ bs

-- Two inputs agree up to byte d.
pub record Agree (d : ℕ) (in₁ in₂ : List ℕ) : Type 0 where
  pub long₁ : d ≤ length in₁
  pub long₂ : d ≤ length in₂
  pub same : take d in₁ ≡ take d in₂

-- Where two inputs agree up to byte d, no answer up to it tells them apart, as long as there is no end call. Both go to readers opened alike.
pub record PrefixRule {S : Type 0} (r : Reader S) : Type 0 where
  -- The answer at byte e, in whatever pieces the bytes up to it come.
  pub equal : {d e : ℕ} {in₁ in₂ xs ys : List ℕ} {cs ds : List Call} → Agree d in₁ in₂ → e ≤ d
      → InPieces (take e in₁) cs xs → InPieces (take e in₂) ds ys → to_piece r cs xs ≡ to_piece r ds ys
  -- A refusal at a place up to d that the whole of one input gets, the whole of the other gets too.
  pub refusals : {d : ℕ} {in₁ in₂ xs ys : List ℕ} {cs ds : List Call} → Agree d in₁ in₂ → InPieces in₁ cs xs → InPieces in₂ ds ys
      → Refuses (to_piece r cs xs) → (to_piece r cs xs).place ≤ d → to_piece r ds ys ≡ to_piece r cs xs

-- What document 01 says of the states of a reader after the calls cs.
pub record StateRule {S : Type 0} (r : Reader S) (cs : List Call) : Type 0 where
  -- Where the piece xs is refused, any next piece ys gets the same answer, and leaves the state as it is.
  pub refused_answer : (xs ys : List ℕ) → has_end cs ≡ false → Refuses (to_piece r cs xs)
      → r.piece_answer (r.piece_next (state_left r cs) xs) ys ≡ to_piece r cs xs
  pub refused_stays : (xs ys : List ℕ) → has_end cs ≡ false → Refuses (to_piece r cs xs)
      → r.piece_next (r.piece_next (state_left r cs) xs) ys ≡ r.piece_next (state_left r cs) xs
  -- After an end call, any call leaves the state as it is.
  pub closed_stays : (c : Call) → has_end cs ≡ true → next r (state_left r cs) c ≡ state_left r cs

-- What the table says of the answers 0 and 1, where `size` is the length of a file that begins with the bytes so far, or none while they do not tell
-- it: of answer number i to the calls cs, counted from 0.
pub record SizeRule {S : Type 0} (size : List ℕ → Option ℕ) (r : Reader S) (cs : List Call) : Type 0 where
  -- 0 is given at the number of bytes so far, and they are no more than the file has: no reader is open past the file's end.
  pub open_place : (i : ℕ) → i < length cs → (nth r cs i).number ≡ open_so_far → (nth r cs i).place ≡ length (joined (take (suc i) cs))
  pub open_within : (i : ℕ) → i < length cs → (nth r cs i).number ≡ open_so_far
      → (l : ℕ) → size (joined (take (suc i) cs)) ≡ some l → (nth r cs i).place ≤ l
  -- 1 is given to the first end call only, at the number of bytes before it, and the file has as many.
  pub accepted_call : (i : ℕ) → i < length cs → (nth r cs i).number ≡ accepted → ends_once (take (suc i) cs) ≡ true
  pub accepted_bytes : (i : ℕ) → i < length cs → (nth r cs i).number ≡ accepted
      → size (joined (take (suc i) cs)) ≡ some (length (joined (take (suc i) cs)))
  pub accepted_place : (i : ℕ) → i < length cs → (nth r cs i).number ≡ accepted → (nth r cs i).place ≡ length (joined (take (suc i) cs))
