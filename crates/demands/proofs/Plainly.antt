-- The plain reader in document 01's words: its table is the rows, a whole file has as many bytes as L, and only a closed reader answers 11.
-- Assumes nothing.
use Prim.Native.Nat.{ℕ, zero, suc, ◌≤◌, ◌<◌}
use mathlib.Core.Bool.{Bool, true, false, cond, false≢true}
use mathlib.Core.List.{List, [], ◌∷◌, ◌++◌}
use mathlib.Core.Logic.{◌↔◌}
use mathlib.Core.Option
use mathlib.Core.Option.{Option, none, some}
use mathlib.Core.Path.{◌≡◌, refl, sym, ap, ◌∙◌}
use native.Mathlib.Omega.{arith}
use borrow.Author.Tests.{eq-eqb, ne_eqb}
use lib.Dec.{eqb}
use lib.ListN.{length, take, get_or}
use Rattle.answer.specs.declared.Answer.{Answer}
use Rattle.answer.specs.Table.{answered, open_so_far, accepted, closed, too_few_bytes}
use Rattle.sha256.specs.Sha256.{sha256}
use Rattle.params.specs.declared.Params.{Params}
use Rattle.params.specs.declared.Terms.{Terms}
use Rattle.params.specs.Parameters.{file_length}
use Rattle.params.specs.Admission.{Admitted}
use Rattle.params.proofs.AdmissionLaws.{admitted-valid}
use Rattle.fri.specs.Process.{Process, run}
use Rattle.fri.specs.Judge.{judgement}
use Rattle.rules.specs.Rules.{Rule, count_1, count_2, count_3, count_4, section_1, coefficient, value, folded_value, path, final_value, after_the_end, Refused, NoFault, PieceRow, VerdictRow, so_far, not_admitted, whole, too_few}
use Rattle.rules.proofs.Exactly.{refused_exactly, piece_exactly, verdict_exactly}
use Rattle.calls.specs.Calls.{Call, piece, end, has_end, answers}
use Rattle.calls.specs.Plain.{Table, holds, or_else, decided_by, earliest, decide, after_piece, after_end, plain}
use Rattle.calls.specs.Judged.{is_whole}
use Rattle.calls.proofs.Judged.{decide_judged, plain-piece}
use Rattle.calls.proofs.Within.{judgement_begins, verdict-plain}
use Rattle.reader_model.specs.Claim.{table}
use Rattle.demands.specs.Demands.{plain_table, TableRule}

none_some : {a : Answer} → none ≡ some a → ⊥
none_some e = let z : ◌≡◌ {A = ℕ} 0 1 = cc in omega arith

module _ (a : Terms) where
  abbrev p : Params
  p = a.params

  abbrev context : List ℕ
  context = a.context

  abbrev judge : Process
  judge = judgement sha256 p context

  abbrev t : Table
  t = table sha256 a

  abbrev doc : Table
  doc = plain_table a

  -- Both tables refuse alike.
  decide-same : (bs : List ℕ) → decide doc bs ≡ decide t bs
  unfolding decide
  decide-same bs = from (length bs)
    where
      from : (d : ℕ) → earliest doc d bs ≡ earliest t d bs
      from zero = refl
      from (suc d) = ap (λ o. or_else o (decided_by t (suc d) bs)) (from d)

  piece-same : (bs : List ℕ) → after_piece doc bs ≡ after_piece t bs
  unfolding after_piece
  piece-same bs = ap (λ o. Option.get_or o (answered open_so_far (length bs))) (decide-same bs)

  -- A closed plain reader asks no table.
  pub shut-same : (b : Bool) (bs : List ℕ) (cs : List Call) → answers (plain doc b) (holds bs true) cs ≡ answers (plain t b) (holds bs true) cs
  shut-same b bs [] = refl
  shut-same b bs (piece xs ∷ cs) = ap (λ (l : List Answer). answered closed 0 ∷ l) (shut-same b bs cs)
  shut-same b bs (end ∷ cs) = ap (λ (l : List Answer). answered closed 0 ∷ l) (shut-same b bs cs)

  open_piece : (bs : List ℕ) → decide t bs ≡ none → after_piece t bs ≡ answered open_so_far (length bs)
  unfolding after_piece
  open_piece bs e = ap (λ o. Option.get_or o (answered open_so_far (length bs))) e

  open_end : (bs : List ℕ) → decide t bs ≡ none → after_end t bs ≡ answered (cond (is_whole (run judge bs 0)) accepted too_few_bytes) (length bs)
  unfolding after_end
  open_end bs e = ap (λ o. Option.get_or o (answered (cond (is_whole (run judge bs 0)) accepted too_few_bytes) (length bs))) e

  module _ (v : Admitted a) where
    refuses : (bs : List ℕ) (c d : ℕ) → decide t bs ≡ some (answered c d) ↔ Refused sha256 p context bs c d
    refuses bs c d = rw (decide_judged judge (judgement_begins sha256 p context) bs) (refused_exactly sha256 p context bs (admitted-valid p v) c d)

    piece-rows : (bs : List ℕ) (c d : ℕ) → after_piece t bs ≡ answered c d ↔ PieceRow sha256 p context bs c d
    piece-rows bs c d = rw (plain-piece judge (judgement_begins sha256 p context) bs) (piece_exactly sha256 p context bs (admitted-valid p v) c d)

    end-rows : (bs : List ℕ) (c d : ℕ) → after_end t bs ≡ answered c d ↔ VerdictRow sha256 a bs c d
    end-rows bs c d = rw (← verdict-plain sha256 a bs v) (verdict_exactly sha256 a bs c d)

    -- No rule holds where nothing is refused, and the other way round.
    clean : (bs : List ℕ) → decide t bs ≡ none → NoFault sha256 p context bs
    clean bs e = by ((piece-rows bs open_so_far (length bs)).0 (open_piece bs e))
      where
        by : {c d : ℕ} → PieceRow sha256 p context bs c d → NoFault sha256 p context bs
        by {c} {d} (PieceRow.by_rule h) = absurd (none_some (sym e ∙ (refuses bs c d).1 h))
        by (so_far n) = n

    unrefused : (bs : List ℕ) → NoFault sha256 p context bs → decide t bs ≡ none
    unfolding NoFault
    unrefused bs n = by (decide t bs) refl
      where
        by : (o : Option Answer) → decide t bs ≡ o → o ≡ none
        by none e = refl
        by (some a) e = let r = (refuses bs a.number a.place).0 e in absurd (n a.number a.place r.there r.rule)

    -- Where nothing is refused, the bytes are a whole file exactly if they are as many as L.
    whole-size : (bs : List ℕ) → decide t bs ≡ none → {c d : ℕ} → VerdictRow sha256 a bs c d → c ≡ accepted → length bs ≡ file_length p
    whole-size bs e (not_admitted n) f = absurd (n v)
    whole-size bs e {c} {d} (VerdictRow.by_rule w h) f = absurd (none_some (sym e ∙ (refuses bs c d).1 h))
    whole-size bs e (whole w n l) f = l
    whole-size bs e (too_few w n l) f = absurd (omega arith)

    short-size : (bs : List ℕ) → decide t bs ≡ none → {c d : ℕ} → VerdictRow sha256 a bs c d → c ≡ too_few_bytes → length bs < file_length p
    short-size bs e (not_admitted n) f = absurd (n v)
    short-size bs e {c} {d} (VerdictRow.by_rule w h) f = absurd (none_some (sym e ∙ (refuses bs c d).1 h))
    short-size bs e (whole w n l) f = absurd (omega arith)
    short-size bs e (too_few w n l) f = l

    whole_same : (bs : List ℕ) → decide t bs ≡ none → eqb (length bs) (file_length p) ≡ is_whole (run judge bs 0)
    whole_same bs e = by (is_whole (run judge bs 0)) ((end-rows bs _ _).0 (open_end bs e))
      where
        by : (b : Bool) → VerdictRow sha256 a bs (cond b accepted too_few_bytes) (length bs) → eqb (length bs) (file_length p) ≡ b
        by true r = eq-eqb (length bs) (file_length p) (whole-size bs e r refl)
        by false r = ne_eqb (length bs) (file_length p) (λ l. omega (arith, short-size bs e r refl))

    end_same : (bs : List ℕ) → after_end doc bs ≡ after_end t bs
    unfolding after_end
    end_same bs = by (decide t bs) refl
      where
        by : (o : Option Answer) → decide t bs ≡ o
            → Option.get_or (decide doc bs) (answered (cond (eqb (length bs) (file_length p)) accepted too_few_bytes) (length bs))
            ≡ Option.get_or (decide t bs) (answered (cond (is_whole (run judge bs 0)) accepted too_few_bytes) (length bs))
        by none e = rw (decide-same bs, e, whole_same bs e)
        by (some a) e = rw (decide-same bs, e)

    -- So every list of calls gets the same answers by either table.
    pub answers-same : (b : Bool) (bs : List ℕ) (cs : List Call) → answers (plain doc b) (holds bs false) cs ≡ answers (plain t b) (holds bs false) cs
    answers-same b bs [] = refl
    answers-same b bs (piece xs ∷ cs) =
        ap (λ a. a ∷ answers (plain doc b) (holds (bs ++ xs) false) cs) (piece-same (bs ++ xs))
        ∙ ap (λ (l : List Answer). after_piece t (bs ++ xs) ∷ l) (answers-same b (bs ++ xs) cs)
    answers-same b bs (end ∷ cs) =
        ap (λ a. a ∷ answers (plain doc b) (holds bs true) cs) (end_same bs)
        ∙ ap (λ (l : List Answer). after_end t bs ∷ l) (shut-same b bs cs)

    pub table_rule : TableRule a
    table_rule =
        record {
          refuses = λ bs c d. rw (decide-same bs) (refuses bs c d);
          silent = λ bs. rw (decide-same bs) (clean bs, unrefused bs);
        }

    -- No rule has the number 11, so an open plain reader never answers it.
    rule-number : {bs : List ℕ} {c d : ℕ} → Rule sha256 p context bs c d → 20 ≤ c
    rule-number (count_1 h) = omega arith
    rule-number (count_2 h) = omega arith
    rule-number (count_3 h) = omega arith
    rule-number (count_4 h) = omega arith
    rule-number (section_1 h) = omega arith
    rule-number (coefficient i l h) = omega arith
    rule-number (value i j r l k m h) = omega arith
    rule-number (folded_value i j l k h) = omega arith
    rule-number (path i j l k h) = omega arith
    rule-number (final_value i j l k h) = omega arith
    rule-number after_the_end = omega arith

    piece_open : {bs : List ℕ} {c d : ℕ} → PieceRow sha256 p context bs c d → c ≡ closed → ⊥
    piece_open (PieceRow.by_rule h) e = omega (arith, rule-number h.rule)
    piece_open (so_far n) e = omega arith

    end_open : {bs : List ℕ} {c d : ℕ} → VerdictRow sha256 a bs c d → c ≡ closed → ⊥
    end_open (not_admitted n) e = n v
    end_open (VerdictRow.by_rule w h) e = omega (arith, rule-number h.rule)
    end_open (whole w n l) e = omega arith
    end_open (too_few w n l) e = omega arith

    pub open_number : (b : Bool) (bs : List ℕ) (cs : List Call) (i : ℕ) → i < length cs → has_end (take i cs) ≡ false
        → (get_or (answers (plain t b) (holds bs false) cs) i (answered open_so_far 0)).number ≡ closed → ⊥
    open_number b bs [] i h e f = omega arith
    open_number b bs (piece xs ∷ cs) zero h e f = piece_open ((piece-rows (bs ++ xs) _ _).0 refl) f
    open_number b bs (piece xs ∷ cs) (suc i) h e f = open_number b (bs ++ xs) cs i (omega arith) e f
    open_number b bs (end ∷ cs) zero h e f = end_open ((end-rows bs _ _).0 refl) f
    open_number b bs (end ∷ cs) (suc i) h e f = false≢true (sym e)
