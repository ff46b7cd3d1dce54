-- The plain reader over a process's table answers what the process comes to on the bytes joined. Assumes nothing.
use Prim.Native.Nat.{ℕ, zero, suc, ◌+◌, ◌≤◌, ◌<◌}
use mathlib.Core.Bool.{Bool, true, false, cond}
use mathlib.Core.List.{List, [], ◌∷◌, ◌++◌, append-nil, append_assoc}
use mathlib.Core.Logic.{◌↔◌}
use mathlib.Core.Option.{Option, none, some, map, get_or}
use mathlib.Core.Path.{◌≡◌, refl, sym, ap, ap₂, ◌∙◌}
use native.Mathlib.Nat.{add-zero}
use native.Mathlib.Omega.{arith}
use lib.Dec.{leb, eqb}
use lib.ListN.{length, take, drop, length-drop, drop_of_length-le}
use lib.Seq.{take_all}
use borrow.Author.Tests.{leb-true, leb-false, eq-eqb}
use Rattle.answer.specs.declared.Answer.{Answer}
use Rattle.answer.specs.Table.{answered, open_so_far, accepted, too_few_bytes, byte_after_the_end}
use Rattle.fri.specs.Process.{Process, Result, Left, left, outcome, run, done, fail, need, short, refused, ended}
use Rattle.fri.specs.Judge.{piece_answer, end_answer}
use Rattle.fri.proofs.Process.{left_enough, left-few, left-append}
use Rattle.calls.specs.Plain.{or_else, decide, after_piece, after_end}
use Rattle.calls.specs.Judged.{refusal_of, number_at, is_whole, table_of}
use Rattle.calls.proofs.Decide.{one_more, Earliest, decide_snoc, decide_some}

-- What is left after a total of bytes: at the end or waiting, the bytes held come after the place, and a process that waits has fewer than it wants.
pub data Rests (total : ℕ) : Process → List ℕ → ℕ → Type 0 where
  at_end : {held : List ℕ} {place : ℕ} → place + length held ≡ total → Rests total done held place
  at_fault : {c place : ℕ} {held : List ℕ} → Rests total (fail c) held place
  waits : {w place : ℕ} {k : List ℕ → Process} {held : List ℕ} → length held < w → place + length held ≡ total → Rests total (need w k) held place

abbrev Resting : ℕ → Left → Type 0
Resting total l = Rests total l.process l.held l.place

rests_from : (p : Process) (xs : List ℕ) (place total : ℕ) → place + length xs ≡ total → Resting total (left p xs place)
unfolding left
rests_from done xs place total e = at_end e
rests_from (fail c) xs place total e = at_fault
rests_from (need w k) xs place total e = by (rests_from (k (take w xs)) (drop w xs) (place + w) total) (leb w (length xs)) refl
  where
    by : ((place + w) + length (drop w xs) ≡ total → Resting total (left (k (take w xs)) (drop w xs) (place + w)))
        → (b : Bool) → leb w (length xs) ≡ b → Resting total (left (need w k) xs place)
    by ih true t =
        let h : w ≤ length xs = leb-true w (length xs) t in
        rw (left_enough w k xs place h) (ih (omega (arith, length-drop w xs)))
    by ih false t =
        let h : length xs < w = leb-false w (length xs) t in
        rw (left-few w k xs place h) (waits h e)

-- A process that gets its last byte: it takes what it waits for, and goes on with none.
pub left_full : (w : ℕ) (k : List ℕ → Process) (xs : List ℕ) (place : ℕ) → length xs ≡ w → left (need w k) xs place ≡ left (k xs) [] (place + w)
left_full w k xs place e =
    left_enough w k xs place (omega arith)
    ∙ ap₂ (λ u v. left (k u) v (place + w)) (take_all w xs (omega arith)) (drop_of_length-le xs {i = w} (omega arith))

-- The refusal that byte d decides, as the plain reader forms it from the table.
abbrev decided_at : ℕ → Result → Option Answer
decided_at d r = map (λ n. answered n d) (number_at d (refusal_of r))

decided_here : (n d e : ℕ) → d ≡ e → map (λ m. answered m e) (cond (eqb d e) (some n) none) ≡ some (answered n d)
decided_here n d e h = rw (eq-eqb d e h, h)

-- With no byte more, a process decides at its place.
decided_at_once : (q : Process) (place : ℕ) → decided_at place (run q [] place) ≡ refusal_of (run q [] place)
unfolding run left outcome
decided_at_once done place = refl
decided_at_once (fail c) place = decided_here c place place refl
decided_at_once (need zero k) place = rw (add-zero place) (decided_at_once (k []) place)
decided_at_once (need (suc w) k) place =
    let few : 0 < suc w = omega arith in
    rw (left-few (suc w) k [] place few)

-- One byte more: the refusal that was there, else the one that this byte decides.
decided_next : (total : ℕ) (q : Process) (held : List ℕ) (place b : ℕ) → Rests total q held place
    → or_else (refusal_of (outcome q held place)) (decided_at (suc total) (run q (held ++ b ∷ []) place)) ≡ refusal_of (run q (held ++ b ∷ []) place)
unfolding run left outcome
decided_next total done [] place b (at_end e) = decided_here byte_after_the_end (place + 1) (suc total) (omega arith)
decided_next total done (x ∷ xs) place b (at_end e) = refl
decided_next total (fail c) held place b at_fault = refl
decided_next total (need w k) held place b (waits h e) = by (leb w (suc (length held))) refl
  where
    by : (u : Bool) → leb w (suc (length held)) ≡ u
        → decided_at (suc total) (run (need w k) (held ++ b ∷ []) place) ≡ refusal_of (run (need w k) (held ++ b ∷ []) place)
    by true t =
        let full : suc (length held) ≡ w = omega (arith, leb-true w (suc (length held)) t) in
        let there : place + w ≡ suc total = omega arith in
        rw (left_full w k (held ++ b ∷ []) place (one_more held b ∙ full), there) (decided_at_once (k (held ++ b ∷ [])) (suc total))
    by false t =
        let more : length (held ++ b ∷ []) < w = omega (arith, leb-false w (suc (length held)) t, one_more held b) in
        rw (left-few w k (held ++ b ∷ []) place more)

-- The process refuses nothing before the first byte.
abbrev pub Begins : Process → Type 0
Begins p = refusal_of (run p [] 0) ≡ none

module _ (p : Process) where
  -- What is left after the bytes bs.
  pub rests : (bs : List ℕ) → Rests (length bs) (left p bs 0).process (left p bs 0).held (left p bs 0).place
  rests bs = rests_from p bs 0 (length bs) (omega arith)

  -- The earliest refusal that the plain reader finds is the one that the bytes come to.
  decide-next : (bs : List ℕ) (b : ℕ) → decide (table_of p) bs ≡ refusal_of (run p bs 0)
      → decide (table_of p) (bs ++ b ∷ []) ≡ refusal_of (run p (bs ++ b ∷ []) 0)
  unfolding run
  decide-next bs b ih =
      decide_snoc (table_of p) bs b
      ∙ ap₂ (λ u d. or_else u (map (λ n. answered n d) (number_at d (refusal_of (run p (bs ++ b ∷ []) 0))))) ih (one_more bs b)
      ∙ (rw (left-append p bs (b ∷ []) 0) (decided_next (length bs) (left p bs 0).process (left p bs 0).held (left p bs 0).place b (rests bs)))

  pub decide_judged : Begins p → (bs : List ℕ) → decide (table_of p) bs ≡ refusal_of (run p bs 0)
  unfolding decide
  decide_judged begins bs = from bs [] (sym begins)
    where
      from : (xs ys : List ℕ) → decide (table_of p) ys ≡ refusal_of (run p ys 0) → decide (table_of p) (ys ++ xs) ≡ refusal_of (run p (ys ++ xs) 0)
      from [] ys e = rw append-nil e
      from (x ∷ xs) ys e = rw (← append_assoc ys (x ∷ []) xs) (from xs (ys ++ x ∷ []) (decide-next ys x e))

  -- So a refusal that the bytes come to is that of the earliest byte that decides one by the table, at its place.
  pub refused-earliest : Begins p → (bs : List ℕ) (n e : ℕ) → refusal_of (run p bs 0) ≡ some (answered n e) ↔ Earliest (table_of p) bs n e
  refused-earliest begins bs n e =
      (λ h. (decide_some (table_of p) bs n e).0 (decide_judged begins bs ∙ h), λ h. sym (decide_judged begins bs) ∙ (decide_some (table_of p) bs n e).1 h)

  -- The plain reader's answer to a piece, and to the end call, where bs are the bytes joined: that of the judgement.
  pub plain-piece : Begins p → (bs : List ℕ) → after_piece (table_of p) bs ≡ piece_answer (run p bs 0) (length bs)
  unfolding after_piece piece_answer
  plain-piece begins bs = ap (λ o. get_or o (answered open_so_far (length bs))) (decide_judged begins bs) ∙ same (run p bs 0)
    where
      same : (r : Result) → get_or (refusal_of r) (answered open_so_far (length bs)) ≡ piece_answer r (length bs)
      same short = refl
      same (refused number place) = refl
      same (ended [] place) = refl
      same (ended (x ∷ xs) place) = refl

  pub plain_end : Begins p → (bs : List ℕ) → after_end (table_of p) bs ≡ end_answer (run p bs 0) (length bs)
  unfolding after_end run outcome end_answer
  plain_end begins bs =
      ap (λ o. get_or o (answered (cond (is_whole (run p bs 0)) accepted too_few_bytes) (length bs))) (decide_judged begins bs)
      ∙ same (left p bs 0).process (left p bs 0).held (left p bs 0).place (rests bs)
    where
      same : (q : Process) (held : List ℕ) (place : ℕ) → Rests (length bs) q held place
          → get_or (refusal_of (outcome q held place)) (answered (cond (is_whole (outcome q held place)) accepted too_few_bytes) (length bs))
          ≡ end_answer (outcome q held place) (length bs)
      same done [] place (at_end e) = ap (λ d. answered accepted d) (omega arith)
      same done (x ∷ xs) place (at_end e) = refl
      same (fail c) held place at_fault = refl
      same (need w k) held place (waits h e) = refl
