-- A reader that goes byte by byte, and whose states stand for what is left of a judgement, meets the third demand with the judgement's table, and
-- its end call gives the judgement's verdict. Assumes nothing.
use Prim.Native.Nat.{ℕ, suc, ◌+◌, ◌<◌}
use mathlib.Core.Bool.{Bool, true, false}
use mathlib.Core.List.{List, [], ◌∷◌, ◌++◌, append_assoc, append-nil, foldl}
use mathlib.Core.Option.{some}
use mathlib.Core.Path.{◌≡◌, refl, ap, sym, ◌∙◌}
use native.Mathlib.Omega.{arith}
use lib.Dec.{leb}
use lib.ListN.{length}
use borrow.Author.Tests.{leb-true, leb-false}
use Rattle.answer.specs.declared.Answer.{Answer}
use Rattle.answer.specs.Table.{answered, accepted, byte_after_the_end}
use Rattle.fri.specs.Judge.{piece_answer, end_answer}
use Rattle.fri.specs.Process.{Process, Left, left, outcome, run, done, fail, need}
use Rattle.fri.proofs.Process.{Width, left-few, left-append}
use Rattle.calls.specs.Calls.{Call, has_end, ends_once, joined, last_given, by_byte}
use Rattle.calls.specs.Plain.{decide}
use Rattle.calls.specs.Demand3.{Demand3, PrefixRule, StateRule, SizeRule, to_piece}
use Rattle.calls.specs.Judged.{refusal_of, table_of}
use Rattle.calls.proofs.Decide.{one_more}
use Rattle.calls.proofs.Follows.{Follows, ShutByte, by_byte_lem, demand3, state-rule, to_piece_lem, end-answer_is}
use Rattle.calls.proofs.Prefix.{prefix_rule}
use Rattle.calls.proofs.Judged.{Rests, at_end, at_fault, waits, rests, left_full, Begins, decide_judged, plain-piece, plain_end}
use Rattle.calls.proofs.Within.{size-rule}

-- What such a reader shows. `Stands s q held d`: in the state s, after d bytes, q is what is left of the judgement p, and held are the bytes that
-- are there of those that q wants next. For a refusal, d is its place.
pub record Denotes {S : Type 0} (p : Process) (opened : S) (step : S → ℕ → S) (says ends : S → Answer) (shut : S) : Type 1 where
  pub Stands : S → Process → List ℕ → ℕ → Type 0
  -- at first the whole judgement is left, which refuses nothing before the first byte
  pub begins : Begins p
  pub opens : Stands opened p [] 0
  -- one byte: among those that are wanted, the last of them, the first after the end, and any after a refusal
  pub room : {s : S} {w d : ℕ} {k : List ℕ → Process} {held : List ℕ} → Stands s (need w k) held d → length held < w
  pub more : {s : S} {w d : ℕ} {k : List ℕ → Process} {held : List ℕ} → Stands s (need w k) held d
      → (b : ℕ) → suc (length held) < w → Stands (step s b) (need w k) (held ++ b ∷ []) (suc d)
  pub last : {s : S} {w d : ℕ} {k : List ℕ → Process} {held : List ℕ} → Stands s (need w k) held d
      → (b : ℕ) → suc (length held) ≡ w → Stands (step s b) (k (held ++ b ∷ [])) [] (suc d)
  pub past : {s : S} {d : ℕ} → Stands s done [] d → (b : ℕ) → Stands (step s b) (fail byte_after_the_end) [] (suc d)
  pub stays : {s : S} {c d : ℕ} → Stands s (fail c) [] d → (b : ℕ) → step s b ≡ s
  -- the answers are those of a judgement that stops here
  pub said : {s : S} {q : Process} {d : ℕ} {held : List ℕ} → Stands s q held d → says s ≡ piece_answer (outcome q [] d) d
  pub ended : {s : S} {q : Process} {d : ℕ} {held : List ℕ} → Stands s q held d → ends s ≡ end_answer (outcome q [] d) d
  -- the closed state answers 11 at 0 to every call, which leaves it
  pub closes : ShutByte step says ends shut

module _ {S : Type 0} {p : Process} {opened : S} {step : S → ℕ → S} {says ends : S → Answer} {shut : S}
    (den : Denotes p opened step says ends shut) where
  -- What the state s is after d bytes, where q is left with the bytes held after the place.
  abbrev Now : S → ℕ → Process → List ℕ → ℕ → Type 0
  Now s d (need w k) held place = den.Stands s (need w k) held d
  Now s d (fail c) held place = den.Stands s (fail c) [] place
  Now s d done [] place = den.Stands s done [] d
  Now s d done (x ∷ xs) place = den.Stands s (fail byte_after_the_end) [] (place + 1)

  abbrev After : S → ℕ → Left → Type 0
  After s d l = Now s d l.process l.held l.place

  fresh : (s : S) (q : Process) (d : ℕ) → den.Stands s q [] d → After s d (left q [] d)
  unfolding left
  fresh s done d h = h
  fresh s (fail c) d h = h
  fresh s (need w k) d h = rw (left-few w k [] d (den.room h)) h

  next : (s : S) (d : ℕ) (q : Process) (held : List ℕ) (place b : ℕ) → Rests d q held place → Now s d q held place
      → After (step s b) (suc d) (left q (held ++ b ∷ []) place)
  unfolding left
  next s d done [] place b (at_end e) h =
      let there : place + 1 ≡ suc d = omega arith in
      rw there (den.past h b)
  next s d done (x ∷ xs) place b (at_end e) h = rw (den.stays h b) h
  next s d (fail c) held place b at_fault h = rw (den.stays h b) h
  next s d (need w k) held place b (waits l e) h = by (leb (suc (suc (length held))) w) refl
    where
      by : (u : Bool) → leb (suc (suc (length held))) w ≡ u → After (step s b) (suc d) (left (need w k) (held ++ b ∷ []) place)
      by true t =
          let few : suc (length held) < w = leb-true (suc (suc (length held))) w t in
          rw (left-few w k (held ++ b ∷ []) place (rw one_more few)) (den.more h b few)
      by false t =
          let full : suc (length held) ≡ w = omega (arith, leb-false (suc (suc (length held))) w t) in
          let there : place + w ≡ suc d = omega arith in
          rw (left_full w k (held ++ b ∷ []) place (one_more held b ∙ full), there)
          (fresh (step s b) (k (held ++ b ∷ [])) (suc d) (den.last h b full))

  after : (bs : List ℕ) → After (foldl step opened bs) (length bs) (left p bs 0)
  after bs = from bs opened [] (fresh opened p 0 den.opens)
    where
      one : (s : S) (bs : List ℕ) (b : ℕ) → After s (length bs) (left p bs 0) → After (step s b) (length (bs ++ b ∷ [])) (left p (bs ++ b ∷ []) 0)
      one s bs b h =
          rw (one_more, left-append p bs (b ∷ []) 0)
          (next s (length bs) (left p bs 0).process (left p bs 0).held (left p bs 0).place b (rests p bs) h)

      from : (xs : List ℕ) (s : S) (ys : List ℕ) → After s (length ys) (left p ys 0)
          → After (foldl step s xs) (length (ys ++ xs)) (left p (ys ++ xs) 0)
      from [] s ys h = rw append-nil h
      from (x ∷ xs) s ys h = rw (← append_assoc ys (x ∷ []) xs) (from xs (step s x) (ys ++ x ∷ []) (one s ys x h))

  -- What such a state says, what its end call answers, and that it stays after a refusal.
  says_now : (s : S) (d : ℕ) (q : Process) (held : List ℕ) (place : ℕ) → Now s d q held place → says s ≡ piece_answer (outcome q held place) d
  unfolding outcome piece_answer
  says_now s d (need w k) held place h = den.said h
  says_now s d (fail c) held place h = den.said h
  says_now s d done [] place h = den.said h
  says_now s d done (x ∷ xs) place h = den.said h

  ends_now : (s : S) (d : ℕ) (q : Process) (held : List ℕ) (place : ℕ) → Rests d q held place → Now s d q held place
      → ends s ≡ end_answer (outcome q held place) d
  unfolding outcome end_answer
  ends_now s d (need w k) held place r h = den.ended h
  ends_now s d (fail c) held place r h = den.ended h
  ends_now s d done [] place (at_end e) h = den.ended h ∙ ap (λ i. answered accepted i) (omega arith)
  ends_now s d done (x ∷ xs) place r h = den.ended h

  stays_now : (s : S) (d : ℕ) (q : Process) (held : List ℕ) (place : ℕ) (a : Answer) → Now s d q held place
      → refusal_of (outcome q held place) ≡ some a → (b : ℕ) → step s b ≡ s
  unfolding outcome
  stays_now s d (need w k) held place a h e b = cc
  stays_now s d (fail c) held place a h e b = den.stays h b
  stays_now s d done [] place a h e b = cc
  stays_now s d done (x ∷ xs) place a h e b = den.stays h b

  pub says_judged : (bs : List ℕ) → says (foldl step opened bs) ≡ piece_answer (run p bs 0) (length bs)
  unfolding run
  says_judged bs = says_now (foldl step opened bs) (length bs) (left p bs 0).process (left p bs 0).held (left p bs 0).place (after bs)

  pub ends_judged : (bs : List ℕ) → ends (foldl step opened bs) ≡ end_answer (run p bs 0) (length bs)
  unfolding run
  ends_judged bs = ends_now (foldl step opened bs) (length bs) (left p bs 0).process (left p bs 0).held (left p bs 0).place (rests p bs) (after bs)

  stays_judged : (bs : List ℕ) (a : Answer) → decide (table_of p) bs ≡ some a → (b : ℕ) → step (foldl step opened bs) b ≡ foldl step opened bs
  unfolding run
  stays_judged bs a e =
      stays_now (foldl step opened bs) (length bs) (left p bs 0).process (left p bs 0).held (left p bs 0).place a (after bs)
      (sym (decide_judged p den.begins bs) ∙ e)

  pub follows : Follows (table_of p) (by_byte opened step says ends shut)
  follows =
      by_byte_lem opened step says ends shut den.closes (table_of p) (λ bs. says_judged bs ∙ sym (plain-piece p den.begins bs))
      (λ bs. ends_judged bs ∙ sym (plain_end p den.begins bs)) stays_judged

  -- The third demand, and the rules on states and prefixes.
  pub denotes_demand3 : (cs : List Call) → Demand3 (table_of p) (by_byte opened step says ends shut) cs
  denotes_demand3 = demand3 (table_of p) (by_byte opened step says ends shut) follows

  pub denotes_states : (cs : List Call) → StateRule (by_byte opened step says ends shut) cs
  denotes_states = state-rule (table_of p) (by_byte opened step says ends shut) follows

  pub denotes_prefix : PrefixRule (by_byte opened step says ends shut)
  denotes_prefix = prefix_rule (table_of p) (by_byte opened step says ends shut) follows

  -- For a judgement of width w: no state is open past w bytes, and the end call accepts w bytes only.
  pub denotes_size : {w : ℕ} → Width p w → (cs : List Call) → SizeRule (λ _. some w) (by_byte opened step says ends shut) cs
  denotes_size width = size-rule width den.begins (by_byte opened step says ends shut) follows

  -- The answer to a piece before any end call, and that to the end call, are those of the judgement on the bytes joined.
  pub piece_judged : (cs : List Call) (xs : List ℕ) → has_end cs ≡ false
      → to_piece (by_byte opened step says ends shut) cs xs ≡ piece_answer (run p (joined cs ++ xs) 0) (length (joined cs ++ xs))
  piece_judged cs xs e =
      to_piece_lem (table_of p) (by_byte opened step says ends shut) follows cs xs e ∙ plain-piece p den.begins (joined cs ++ xs)

  pub end_judged : (cs : List Call) → ends_once cs ≡ true
      → last_given (by_byte opened step says ends shut) cs ≡ end_answer (run p (joined cs) 0) (length (joined cs))
  end_judged cs e = end-answer_is (table_of p) (by_byte opened step says ends shut) follows cs e ∙ plain_end p den.begins (joined cs)
