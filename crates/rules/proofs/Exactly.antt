-- The judgement refuses exactly by the table: a refusal, a piece's answer and the verdict, row by row, for any hash and any bytes. Assumes nothing.
use Prim.Native.Nat.{ℕ, ◌+◌, ◌≤◌, ◌<◌}
use mathlib.Core.List.{List, [], ◌∷◌}
use mathlib.Core.Logic.{◌↔◌}
use mathlib.Core.Option.{none, some, some_inj}
use mathlib.Core.Path.{◌≡◌, refl, ap, ap₂, sym, ◌∙◌, subst₂}
use native.Mathlib.Omega.{arith}
use lib.ListN.{length, drop, length-drop}
use Rattle.answer.specs.declared.Answer.{Answer}
use Rattle.answer.specs.Table.{answered, open_so_far, accepted, too_few_bytes}
use Rattle.params.specs.declared.Params.{Params}
use Rattle.params.specs.declared.Terms.{Terms}
use Rattle.params.specs.Parameters.{Valid, file_length}
use Rattle.params.specs.Admission.{admission_of, Admitted}
use Rattle.params.proofs.AdmissionLaws.{admitted-valid, admits_true, admits_false, admitted_or_not}
use Rattle.message.specs.Message.{Digest}
use Rattle.fri.specs.Process.{Result, run, ended}
use Rattle.fri.specs.Judge.{judgement, piece_answer, end_answer, verdict}
use Rattle.calls.specs.Judged.{refusal_of}
use Rattle.rules.specs.Rules.{Rule, after_the_end, Refused, NoFault, PieceRow, VerdictRow, so_far, not_admitted, whole, too_few}
use Rattle.rules.proofs.Faults.{Faults, First, Before, left, cases, same, earlier, number_first, path_first}
use Rattle.rules.proofs.Steps.{Step, Goes, passes, stops, waits}
use Rattle.rules.proofs.Sections.{AllFaults, judgement-step}
use Rattle.rules.proofs.Rows.{rule_fault, fault_rule}

-- What the order rules out.
not_later : {c d c' d' : ℕ} → Before c d c' d' → d' < d → ⊥
not_later (same e f) h = omega arith
not_later (earlier g) h = omega arith
not_later (number_first e f g) h = omega arith
not_later (path_first e f g) h = omega arith

not_second : {c d c' : ℕ} → Before c d c' d → c' < c → ⊥
not_second (same e f) h = omega arith
not_second (earlier g) h = omega arith
not_second (number_first e f g) h = omega arith
not_second (path_first e f g) h = omega arith

-- A row where an answer is said in two ways.
at_row : {a b c d : ℕ} (R : ℕ → ℕ → Type 0) → R a b → answered a b ≡ answered c d → R c d
at_row R h e = subst₂ R (ap (λ u. u.number) e) (ap (λ u. u.place) e) h

none_some : {a : Answer} → none ≡ some a → ⊥
none_some e = let z : ◌≡◌ {A = ℕ} 0 1 = cc in omega arith

module _ (hash : List ℕ → Digest) (p : Params) (context file : List ℕ) where
  -- The table's rules, the faults of the judgement's steps, and what the bytes come to.
  abbrev Rules : Faults
  Rules = Rule hash p context file

  abbrev Due : Faults
  Due = AllFaults hash p context file

  abbrev result : Result
  result = run (judgement hash p context) file 0

  -- c at d is the first of the table's faults, and is there.
  pub record Stopped (c d : ℕ) : Type 0 where
    pub there : d ≤ length file
    pub rule : Rules c d
    pub first : First Rules c d

  pub stopped-refused : {c d : ℕ} → Stopped c d → Refused hash p context file c d
  stopped-refused {c} {d} s =
      record {
        there = omega (arith, s.there);
        rule = s.rule;
        earliest = λ c' d' h r. not_later (s.first c' d' r) (omega arith);
        number_first = λ e r. not_second (s.first _ d r) (omega arith);
        path_first = λ e r. not_second (s.first _ d r) (omega arith);
      }

  -- There is no other refusal by the table.
  pub refused-stopped : {c d c' d' : ℕ} → Stopped c d → Refused hash p context file c' d' → (c ≡ c') × (d ≡ d')
  refused-stopped {c} {d} {c'} {d'} s r = by (s.first c' d' r.rule)
    where
      by : Before c d c' d' → (c ≡ c') × (d ≡ d')
      by (same e f) = (e, f)
      by (earlier h) = absurd (r.earliest c d (omega arith) s.rule)
      by (number_first e f g) = absurd (r.number_first f (subst₂ Rules e g s.rule))
      by (path_first e f g) = absurd (r.path_first f (subst₂ Rules e g s.rule))

  -- What the bytes come to: the first fault, in each of the three answers; or no fault, and all the bytes or fewer.
  pub data Ending (r : Result) : Type 0 where
    all_there : length file ≡ file_length p → end_answer r (length file) ≡ answered accepted (length file) → Ending r
    fewer : length file < file_length p → end_answer r (length file) ≡ answered too_few_bytes (length file) → Ending r

  pub data Judged (r : Result) : Type 0 where
    stopped : {c d : ℕ} → Stopped c d → refusal_of r ≡ some (answered c d) → piece_answer r (length file) ≡ answered c d
        → end_answer r (length file) ≡ answered c d → Judged r
    going : NoFault hash p context file → refusal_of r ≡ none → piece_answer r (length file) ≡ answered open_so_far (length file) → Ending r
        → Judged r

  judged : Valid p → Judged result
  unfolding piece_answer end_answer NoFault
  judged v = by (step.goes (omega arith))
    where
      step : Step file Due 0 (file_length p) result (ended (drop (file_length p) file) (file_length p))
      step = judgement-step hash p context file v

      no_fault : length file ≤ file_length p → ((c d : ℕ) → d ≤ length file → Due c d → ⊥) → (c d : ℕ) → d ≤ length file → Rules c d → ⊥
      no_fault h n c d l r = cases (n c d l) (λ f. omega (arith, f.by_place)) (rule_fault hash p context file r)

      ends : file_length p ≤ length file → ((c d : ℕ) → Due c d → ⊥) → (rest : List ℕ) → drop (file_length p) file ≡ rest
          → result ≡ ended rest (file_length p) → Judged result
      ends h n [] t e =
          let size : length file ≡ file_length p = omega (arith, length-drop (file_length p) file, ap length t) in
          going (no_fault (omega arith) (λ c d _. n c d)) (rw e) (rw e) (all_there size (rw e (ap (answered accepted) (sym size))))
      ends h n (x ∷ xs) t e =
          let size : file_length p < length file = omega (arith, length-drop (file_length p) file, ap length t) in
          stopped {d = file_length p + 1}
          (record {
            there = omega arith;
            rule = after_the_end;
            first = λ c d r.
                cases (λ f. absurd (n c d f)) (λ f. same (sym f.by_number) (sym f.by_place)) (rule_fault hash p context file r);
          })
          (rw e) (rw e) (rw e)

      by : Goes file Due (file_length p) result (ended (drop (file_length p) file) (file_length p)) → Judged result
      by (passes h n e) = ends h n (drop (file_length p) file) refl e
      by (stops {c} {d} f l n e) =
          stopped
          (record {
            there = l;
            rule = fault_rule hash p context file (left f);
            first = λ c' d' r. cases (n c' d') (λ g. earlier (omega (arith, step.within c d f, g.by_place))) (rule_fault hash p context file r);
          })
          (rw e) (rw e) (rw e)
      by (waits h n e) = going (no_fault (omega arith) n) (rw e) (rw e) (fewer h (rw e))

  -- The one refusal by the table, where an answer is said in two ways; and there is none where there is no fault.
  at_stop : {c d c' d' : ℕ} → Stopped c d → answered c d ≡ answered c' d' → Refused hash p context file c' d'
  at_stop s e = at_row (Refused hash p context file) (stopped-refused s) e

  to_stop : {c d c' d' : ℕ} → Stopped c d → Refused hash p context file c' d' → answered c d ≡ answered c' d'
  to_stop s r = let e = refused-stopped s r in ap₂ answered e.0 e.1

  no_refusal : {c d : ℕ} → NoFault hash p context file → Refused hash p context file c d → ⊥
  unfolding NoFault
  no_refusal {c} {d} n r = n c d (omega (arith, r.there)) r.rule

  refusal-rows : {r : Result} → Judged r → (c d : ℕ) → refusal_of r ≡ some (answered c d) ↔ Refused hash p context file c d
  refusal-rows (stopped s e f g) c d = (λ h. at_stop s (some_inj.0 (sym e ∙ h)), λ h. e ∙ ap some (to_stop s h))
  refusal-rows (going n e f g) c d = (λ h. absurd (none_some (sym e ∙ h)), λ h. absurd (no_refusal n h))

  -- A piece's answer.
  piece_row : {r : Result} {c d : ℕ} → Judged r → piece_answer r (length file) ≡ answered c d → PieceRow hash p context file c d
  piece_row (stopped s e f g) h = PieceRow.by_rule (at_stop s (sym f ∙ h))
  piece_row (going n e f g) h = at_row (PieceRow hash p context file) (so_far n) (sym f ∙ h)

  row_piece : {r : Result} {c d : ℕ} → Judged r → PieceRow hash p context file c d → piece_answer r (length file) ≡ answered c d
  row_piece (stopped s e f g) (PieceRow.by_rule h) = f ∙ to_stop s h
  row_piece (stopped s e f g) (so_far n) = absurd (no_refusal n (stopped-refused s))
  row_piece (going n e f g) (PieceRow.by_rule h) = absurd (no_refusal n h)
  row_piece (going n e f g) (so_far m) = f

  -- The theorems.
  pub refused_exactly : Valid p → (c d : ℕ) → refusal_of (run (judgement hash p context) file 0) ≡ some (answered c d) ↔ Refused hash p context file c d
  refused_exactly v = refusal-rows (judged v)

  pub piece_exactly : Valid p → (c d : ℕ)
      → piece_answer (run (judgement hash p context) file 0) (length file) ≡ answered c d ↔ PieceRow hash p context file c d
  piece_exactly v c d = (piece_row (judged v), row_piece (judged v))

-- The end call's answer and the verdict, for an opening with these arguments.
module _ (hash : List ℕ → Digest) (a : Terms) (file : List ℕ) where
  abbrev Row : ℕ → ℕ → Type 0
  Row = VerdictRow hash a file

  abbrev About : Result → Type 0
  About = Judged hash a.params a.context file

  -- Admitted.
  end_row : {r : Result} {c d : ℕ} → Admitted a → About r → end_answer r (length file) ≡ answered c d → Row c d
  end_row v (stopped s e f g) h = VerdictRow.by_rule v (at_stop hash a.params a.context file s (sym g ∙ h))
  end_row v (going n e f (all_there l g)) h = at_row Row (whole v n (omega arith)) (sym g ∙ h)
  end_row v (going n e f (fewer l g)) h = at_row Row (too_few v n (omega arith)) (sym g ∙ h)

  row_end : {r : Result} {c d : ℕ} → Admitted a → About r → Row c d → end_answer r (length file) ≡ answered c d
  row_end v (stopped s e f g) (not_admitted n) = absurd (n v)
  row_end v (stopped s e f g) (VerdictRow.by_rule w h) = g ∙ to_stop hash a.params a.context file s h
  row_end v (stopped s e f g) (whole w n m) =
      absurd (no_refusal hash a.params a.context file n (stopped-refused hash a.params a.context file s))
  row_end v (stopped s e f g) (too_few w n m) =
      absurd (no_refusal hash a.params a.context file n (stopped-refused hash a.params a.context file s))
  row_end v (going n e f g) (not_admitted m) = absurd (m v)
  row_end v (going n e f g) (VerdictRow.by_rule w h) = absurd (no_refusal hash a.params a.context file n h)
  row_end v (going n e f (all_there l g)) (whole w m k) = g
  row_end v (going n e f (fewer l g)) (whole w m k) = absurd (omega arith)
  row_end v (going n e f (all_there l g)) (too_few w m k) = absurd (omega arith)
  row_end v (going n e f (fewer l g)) (too_few w m k) = g

  -- Refused.
  other_row : {c d : ℕ} → ¬ Admitted a → Row c d → answered (admission_of a) 0 ≡ answered c d
  other_row n (not_admitted m) = refl
  other_row n (VerdictRow.by_rule v h) = absurd (n v)
  other_row n (whole v m l) = absurd (n v)
  other_row n (too_few v m l) = absurd (n v)

  -- With no premise on the arguments.
  pub verdict_exactly : (c d : ℕ) → verdict hash a file ≡ answered c d ↔ VerdictRow hash a file c d
  unfolding verdict
  verdict_exactly c d = by (admitted_or_not a.params)
    where
      by : Dec (Admitted a) → verdict hash a file ≡ answered c d ↔ VerdictRow hash a file c d
      by (yes v) =
          let j = judged hash a.params a.context file (admitted-valid a.params v) in
          rw (admits_true a.params v) (end_row v j, row_end v j)
      by (no n) = rw (admits_false a.params n) (at_row Row (not_admitted n), other_row n)
