-- A reader whose open states are a function of the bytes joined so far, and that answers of them as the plain reader does, meets the third demand.
-- Assumes nothing.
use Prim.Native.Nat.{ℕ, zero, suc, ◌<◌}
use mathlib.Core.Bool.{Bool, true, false, cond}
use mathlib.Core.List.{List, [], ◌∷◌, ◌++◌, append-nil, append_assoc, foldl, foldl-append}
use mathlib.Core.Option
use mathlib.Core.Option.{Option, none, some}
use mathlib.Core.Path.{◌≡◌, refl, sym, ap, ◌∙◌}
use native.Mathlib.Omega.{arith}
use lib.ListN.{length, take, get_or}
use Rattle.answer.specs.declared.Answer.{Answer}
use Rattle.answer.specs.Table.{answered, open_so_far, closed}
use Rattle.calls.specs.Calls.{Call, piece, end, has_end, ends_once, joined, in_one_piece, Reader, next, state_after, answers, last_or, state_left, given, last_given, Refuses, by_byte}
use Rattle.calls.specs.Plain.{Table, decide, after_piece, after_end, holds, plain}
use Rattle.calls.specs.Demand3.{Demand3, StateRule, Alike, to_piece}
use Rattle.calls.proofs.Decide.{decide-stays}

-- A closed state: every call gets 11 at 0 and leaves it.
pub record Shut {S : Type 0} (r : Reader S) (s : S) : Type 0 where
  pub piece-stays : (xs : List ℕ) → r.piece_next s xs ≡ s
  pub piece-closed : (xs : List ℕ) → r.piece_answer s xs ≡ answered closed 0
  pub end_stays : r.end_next s ≡ s
  pub end-closed : r.end_answer s ≡ answered closed 0

-- What a reader shows of its opened state and its two calls: `state_of bs` is its state when bs are the bytes joined, `shut` its closed state.
pub record Follows {S : Type 0} (t : Table) (r : Reader S) : Type 0 where
  pub state_of : List ℕ → S
  pub shut : S
  pub starts : r.opened ≡ state_of []
  pub piece-next : (bs xs : List ℕ) → r.piece_next (state_of bs) xs ≡ state_of (bs ++ xs)
  pub piece-answer : (bs xs : List ℕ) → r.piece_answer (state_of bs) xs ≡ after_piece t (bs ++ xs)
  pub stays : (bs xs : List ℕ) (a : Answer) → decide t bs ≡ some a → state_of (bs ++ xs) ≡ state_of bs
  pub end-next : (bs : List ℕ) → r.end_next (state_of bs) ≡ shut
  pub end-answer : (bs : List ℕ) → r.end_answer (state_of bs) ≡ after_end t bs
  pub closes : Shut r shut

module _ (t : Table) where
  -- After a refusal: the same refusal to a piece, and to the end call.
  pub piece-refused : (bs : List ℕ) → Refuses (after_piece t bs) → decide t bs ≡ some (after_piece t bs)
  unfolding after_piece
  piece-refused bs h = go (decide t bs) h
    where
      go : (o : Option Answer) → Refuses (Option.get_or o (answered open_so_far (length bs)))
          → o ≡ some (Option.get_or o (answered open_so_far (length bs)))
      go none k = absurd (omega arith)
      go (some a) k = refl

  pub piece_repeats : (bs xs : List ℕ) (a : Answer) → decide t bs ≡ some a → after_piece t (bs ++ xs) ≡ a
  unfolding after_piece
  piece_repeats bs xs a e = rw (decide-stays t bs xs a e)

  end_repeats : (bs : List ℕ) (a : Answer) → decide t bs ≡ some a → after_end t bs ≡ a
  unfolding after_end
  end_repeats bs a e = rw e

  -- The plain reader's answer number i, where it holds bs.
  abbrev pub plainly : List ℕ → Bool → List Call → ℕ → Answer
  plainly bs isClosed cs i = get_or (answers (plain t false) (holds bs isClosed) cs) i (answered open_so_far 0)

  -- When closed, and after an end call: 11 at 0.
  pub shut-answers : (cs : List Call) (bs : List ℕ) (j : ℕ) → j < length cs → plainly bs true cs j ≡ answered closed 0
  shut-answers [] bs j h = absurd (omega arith)
  shut-answers (piece xs ∷ cs) bs zero h = refl
  shut-answers (piece xs ∷ cs) bs (suc j) h = shut-answers cs bs j (omega arith)
  shut-answers (end ∷ cs) bs zero h = refl
  shut-answers (end ∷ cs) bs (suc j) h = shut-answers cs bs j (omega arith)

  plain_after_end : (cs : List Call) (bs : List ℕ) (j : ℕ) → j < length cs → has_end (take j cs) ≡ true → plainly bs false cs j ≡ answered closed 0
  plain_after_end [] bs j h e = absurd (omega arith)
  plain_after_end (c ∷ cs) bs zero h e = cc
  plain_after_end (piece xs ∷ cs) bs (suc j) h e = plain_after_end cs _ j (omega arith) e
  plain_after_end (end ∷ cs) bs (suc j) h e = shut-answers cs bs j (omega arith)

  -- From a refusal on, every answer up to that of the first end call is that refusal.
  plain-refused : (cs : List Call) (bs : List ℕ) (a : Answer) → decide t bs ≡ some a → (j : ℕ) → j < length cs → has_end (take j cs) ≡ false
      → plainly bs false cs j ≡ a
  plain-refused [] bs a q j h e = absurd (omega arith)
  plain-refused (piece xs ∷ cs) bs a q zero h e = piece_repeats bs xs a q
  plain-refused (piece xs ∷ cs) bs a q (suc j) h e = plain-refused cs (bs ++ xs) a (decide-stays t bs xs a q) j (omega arith) e
  plain-refused (end ∷ cs) bs a q zero h e = end_repeats bs a q
  plain-refused (end ∷ cs) bs a q (suc j) h e = cc

  plain-repeated : (cs : List Call) (bs : List ℕ) (i j : ℕ) → i < j → j < length cs → has_end (take j cs) ≡ false
      → Refuses (plainly bs false cs i) → plainly bs false cs j ≡ plainly bs false cs i
  plain-repeated cs bs i zero l h e w = absurd (omega arith)
  plain-repeated [] bs i (suc j) l h e w = absurd (omega arith)
  plain-repeated (piece xs ∷ cs) bs zero (suc j) l h e w =
      plain-refused cs (bs ++ xs) (after_piece t (bs ++ xs)) (piece-refused (bs ++ xs) w) j (omega arith) e
  plain-repeated (piece xs ∷ cs) bs (suc i) (suc j) l h e w = plain-repeated cs (bs ++ xs) i j (omega arith) (omega arith) e w
  plain-repeated (end ∷ cs) bs i (suc j) l h e w = cc

  -- The last answer to a list with one end call, as its last call.
  plain_last : (cs : List Call) (bs : List ℕ) (a : Answer) → ends_once cs ≡ true
      → last_or a (answers (plain t false) (holds bs false) cs) ≡ after_end t (bs ++ joined cs)
  plain_last [] bs a e = cc
  plain_last (piece xs ∷ cs) bs a e = rw (← append_assoc bs xs (joined cs)) (plain_last cs (bs ++ xs) _ e)
  plain_last (end ∷ []) bs a e = rw append-nil
  plain_last (end ∷ (c ∷ cs)) bs a e = cc

one-piece_alike : (cs : List Call) → Alike cs (in_one_piece cs)
one-piece_alike cs = record { bytes = rw (no_more (has_end cs), append-nil); ends = same (has_end cs) }
  where
    no_more : (b : Bool) → joined (cond b (end ∷ []) []) ≡ []
    no_more true = refl
    no_more false = refl

    same : (b : Bool) → b ≡ has_end (cond b (end ∷ []) [])
    same true = refl
    same false = refl

-- From a closed state on: the answers of the plain reader when closed, and the state stays. So it is after a refused opening.
module _ {S : Type 0} (t : Table) (r : Reader S) {s : S} (closes : Shut r s) where
  shut_given : (cs : List Call) (bs : List ℕ) (refused : Bool) → answers r s cs ≡ answers (plain t refused) (holds bs true) cs
  shut_given [] bs refused = refl
  shut_given (piece xs ∷ cs) bs refused = rw (closes.piece-closed xs, closes.piece-stays xs, shut_given cs bs refused)
  shut_given (end ∷ cs) bs refused = rw (closes.end-closed, closes.end_stays, shut_given cs bs refused)

  shut-leaves : (cs : List Call) → state_after r s cs ≡ s
  shut-leaves [] = refl
  shut-leaves (piece xs ∷ cs) = rw (closes.piece-stays xs) (shut-leaves cs)
  shut-leaves (end ∷ cs) = rw closes.end_stays (shut-leaves cs)

module _ {S : Type 0} (t : Table) (r : Reader S) (closes : Shut r r.opened) (cs : List Call) where
  pub refused_opening : given r cs ≡ given (plain t true) cs
  refused_opening = shut_given t r closes cs [] true

  pub refused_leaves : state_left r cs ≡ r.opened
  refused_leaves = shut-leaves t r closes cs

module _ {S : Type 0} (t : Table) (r : Reader S) (f : Follows t r) where
  -- The answers to any list, and the state that it leaves, from an open state on.
  open_given : (cs : List Call) (bs : List ℕ) → answers r (f.state_of bs) cs ≡ answers (plain t false) (holds bs false) cs
  open_given [] bs = refl
  open_given (piece xs ∷ cs) bs = rw (f.piece-answer bs xs, f.piece-next bs xs, open_given cs (bs ++ xs))
  open_given (end ∷ cs) bs = rw (f.end-answer bs, f.end-next bs, shut_given t r f.closes cs bs false)

  pub answers-plain : (cs : List Call) → given r cs ≡ given (plain t false) cs
  answers-plain cs = rw f.starts (open_given cs [])

  open_leaves : (cs : List Call) (bs : List ℕ) → state_after r (f.state_of bs) cs ≡ cond (has_end cs) f.shut (f.state_of (bs ++ joined cs))
  open_leaves [] bs = rw append-nil
  open_leaves (piece xs ∷ cs) bs = rw (f.piece-next bs xs, ← append_assoc bs xs (joined cs)) (open_leaves cs (bs ++ xs))
  open_leaves (end ∷ cs) bs = rw (f.end-next bs) (shut-leaves t r f.closes cs)

  pub state-left : (cs : List Call) → state_left r cs ≡ cond (has_end cs) f.shut (f.state_of (joined cs))
  state-left cs = rw f.starts (open_leaves cs [])

  -- A piece after calls with no end call: the state of the bytes joined, and the plain reader's answer for them.
  after_piece_lem : (cs : List Call) (xs : List ℕ) → has_end cs ≡ false → r.piece_next (state_left r cs) xs ≡ f.state_of (joined cs ++ xs)
  after_piece_lem cs xs e = ap (λ s. r.piece_next s xs) (rw e at (state-left cs)) ∙ f.piece-next (joined cs) xs

  pub to_piece_lem : (cs : List Call) (xs : List ℕ) → has_end cs ≡ false → to_piece r cs xs ≡ after_piece t (joined cs ++ xs)
  to_piece_lem cs xs e = ap (λ s. r.piece_answer s xs) (rw e at (state-left cs)) ∙ f.piece-answer (joined cs) xs

  -- The answer to the end call of a list that ends with it.
  pub end-answer_is : (cs : List Call) → ends_once cs ≡ true → last_given r cs ≡ after_end t (joined cs)
  end-answer_is cs e = rw (answers-plain cs) (plain_last t cs [] (answered open_so_far 0) e)

  -- The third demand, of every list of calls.
  pub demand3 : (cs : List Call) → Demand3 t r cs
  demand3 cs = record {
    plainly = answers-plain cs;
    states = λ ds a. rw (state-left cs, state-left ds, a.bytes, a.ends);
    lasts = λ ds a p q. end-answer_is cs p ∙ ap (after_end t) a.bytes ∙ sym (end-answer_is ds q);
    whole = one-piece_alike cs;
    repeated = λ i j l h e. rw (answers-plain cs) (plain-repeated t cs [] i j l h e);
    after_end_lem = λ j h e. rw (answers-plain cs) (plain_after_end t cs [] j h e);
  }

  -- The states of a refused and of a closed reader, after every list of calls.
  pub state-rule : (cs : List Call) → StateRule r cs
  state-rule cs = record {
    refused_answer = λ xs ys e w.
        ap (λ s. r.piece_answer s ys) (after_piece_lem cs xs e)
        ∙ f.piece-answer (joined cs ++ xs) ys
        ∙ piece_repeats t (joined cs ++ xs) ys _ (refusal xs e w)
        ∙ sym (to_piece_lem cs xs e);
    refused_stays = λ xs ys e w.
        ap (λ s. r.piece_next s ys) (after_piece_lem cs xs e)
        ∙ f.piece-next (joined cs ++ xs) ys
        ∙ f.stays (joined cs ++ xs) ys _ (refusal xs e w)
        ∙ sym (after_piece_lem cs xs e);
    closed_stays = λ c e.
        let now : state_left r cs ≡ f.shut = rw e at (state-left cs) in
        ap (λ s. next r s c) now ∙ shut-stays c ∙ sym now;
  }
    where
      refusal : (xs : List ℕ) → has_end cs ≡ false → Refuses (to_piece r cs xs) → decide t (joined cs ++ xs) ≡ some (after_piece t (joined cs ++ xs))
      refusal xs e w = piece-refused t (joined cs ++ xs) (rw (to_piece_lem cs xs e) at w)

      shut-stays : (c : Call) → next r f.shut c ≡ f.shut
      shut-stays (piece xs) = f.closes.piece-stays xs
      shut-stays end = f.closes.end_stays

-- The closed state of a reader that goes byte by byte.
pub record ShutByte {S : Type 0} (step : S → ℕ → S) (says ends : S → Answer) (shut : S) : Type 0 where
  pub stays : (b : ℕ) → step shut b ≡ shut
  pub said : says shut ≡ answered closed 0
  pub ended : ends shut ≡ answered closed 0

module _ {S : Type 0} (opened : S) (step : S → ℕ → S) (says ends : S → Answer) (shut : S) (closes : ShutByte step says ends shut) where
  stuck : (s : S) → ((b : ℕ) → step s b ≡ s) → (xs : List ℕ) → foldl step s xs ≡ s
  stuck s stays [] = refl
  stuck s stays (x ∷ xs) = rw (stays x) (stuck s stays xs)

  pub shut_by_byte : Shut (by_byte opened step says ends shut) shut
  shut_by_byte = record {
    piece-stays = stuck shut closes.stays;
    piece-closed = λ xs. ap says (stuck shut closes.stays xs) ∙ closes.said;
    end_stays = refl;
    end-closed = closes.ended;
  }

  -- Such a reader shows what its states say of the bytes joined, and that a refused state stays.
  pub by_byte_lem : (t : Table)
      → ((bs : List ℕ) → says (foldl step opened bs) ≡ after_piece t bs)
      → ((bs : List ℕ) → ends (foldl step opened bs) ≡ after_end t bs)
      → ((bs : List ℕ) (a : Answer) → decide t bs ≡ some a → (b : ℕ) → step (foldl step opened bs) b ≡ foldl step opened bs)
      → Follows t (by_byte opened step says ends shut)
  by_byte_lem t said ended stays = record {
    state_of = λ bs. foldl step opened bs;
    shut = shut;
    starts = refl;
    piece-next = joins;
    piece-answer = λ bs xs. ap says (joins bs xs) ∙ said (bs ++ xs);
    stays = λ bs xs a e. sym (joins bs xs) ∙ stuck (foldl step opened bs) (stays bs a e) xs;
    end-next = λ bs. refl;
    end-answer = ended;
    closes = shut_by_byte;
  }
    where
      joins : (bs xs : List ℕ) → foldl step (foldl step opened bs) xs ≡ foldl step opened (bs ++ xs)
      joins bs xs = sym (foldl-append step opened bs xs)
