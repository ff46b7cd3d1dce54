-- Both readers meet the demands, for any arguments of the opening. Assumes nothing.
use Prim.Native.Nat.{ℕ, ◌<◌}
use mathlib.Core.Bool.{Bool, true, false, not}
use mathlib.Core.List.{List, [], ◌∷◌}
use mathlib.Core.Logic.{◌↔◌}
use mathlib.Core.Path.{◌≡◌, refl, sym, ap, ◌∙◌}
use lib.Dec.{eqb}
use lib.ListN.{length, take, get_or}
use Rattle.answer.specs.declared.Answer.{Answer}
use Rattle.answer.specs.Table.{answered, open_so_far, accepted, parameters_not_valid, closed}
use Rattle.sha256.specs.Sha256.{sha256}
use Rattle.params.specs.declared.Terms.{Terms}
use Rattle.params.specs.Parameters.{Valid}
use Rattle.params.specs.Admission.{admission_of, Admitted}
use Rattle.params.proofs.AdmissionLaws.{admitted, refused, admitted-valid, refused_not_valid, admits_true, admits_false, admitted_or_not}
use Rattle.fri.specs.Judge.{verdict}
use Rattle.rules.proofs.Exactly.{piece_exactly, verdict_exactly}
use Rattle.calls.specs.Calls.{Call, has_end, state_left, given, nth, Reader as Calls}
use Rattle.calls.specs.Plain.{plain}
use Rattle.reader_model.specs.declared.Reader.{Reader}
use Rattle.reader_model.specs.declared.Core.{Core}
use Rattle.reader_model.specs.State.{stopped}
use Rattle.reader_model.specs.Model.{opened, pieced, fed, ended, is_stopped}
use Rattle.reader_model.specs.Claim.{table, reader, Opened, Refused}
use Rattle.reader_model.proofs.Theorem.{claim}
use Rattle.lent_reader.specs.Held.{held_of, outcome_of, boundary}
use Rattle.lent_reader.proofs.Through.{round_trip}
use Rattle.built.proofs.Built.{built_accepted}
use Rattle.demands.specs.Demands.{plain_table, by_value_states, lent_states, Closed, after_end_lem, after_refusal, WhenAdmitted, WhenRefused, Demands, Readers}
use Rattle.demands.proofs.Plainly.{shut-same, answers-same, table_rule, open_number}
use Rattle.demands.proofs.Keeps.{step_keeps}
use Rattle.demands.proofs.Image.{Stands, demands_image}

module _ (a : Terms) where
  abbrev r : Calls Reader
  r = reader sha256 a

  -- What a refused byte leaves.
  refused-state : (s : Reader) (x : ℕ) {a : Answer} → (pieced sha256 s (x ∷ [])).state.core ≡ stopped a
      → (pieced sha256 s (x ∷ [])).state ≡ record { core = stopped a; tables = s.tables }
  unfolding pieced fed
  refused-state s x e = rw (e, step_keeps sha256 s x (ap (λ (c : Core). is_stopped c.stage) e))

  admitted_demands : Admitted a → WhenAdmitted a (opened sha256 a).answer by_value_states r
  admitted_demands v =
      let c : (cs : List Call) → Opened sha256 a cs = λ cs. claim.opened sha256 a cs v in
      record {
        opens = (c []).answer;
        accepts_exactly = λ cs. (c cs).accepts;
        accepts_built = λ f short cs e same. (c cs).verdicts e ∙ ap (verdict sha256 a) same ∙ built_accepted a f v short ∙ ap (λ l. answered accepted (length l)) (sym same);
        any_list = λ cs.
            let d = (c cs).demand3 in
            record {
              plainly = d.plainly ∙ sym (answers-same a v false [] cs);
              states = d.states;
              lasts = d.lasts;
              whole = d.whole;
              repeated = d.repeated;
              after_end_lem = d.after_end_lem;
            };
        piece_row = λ cs xs e n d. rw ((c cs).pieces xs e) (piece_exactly sha256 a.params a.context _ (admitted-valid a.params v) n d);
        end_row = λ cs e n d. rw ((c cs).verdicts e) (verdict_exactly sha256 a _ n d);
        states = λ cs. (c cs).states;
        prefixes = (c []).prefixes;
        sizes = λ cs. (c cs).sizes;
        closes = λ cs. (c cs).closed_state_lem;
        refused_leaves = λ cs x e g. refused-state (state_left r cs) x ((c cs).refused_core (x ∷ []) e g);
      }

  refused_demands : ¬ Admitted a → WhenRefused a (opened sha256 a).answer by_value_states r
  refused_demands n =
      let c : (cs : List Call) → Refused sha256 a cs = λ cs. claim.refused sha256 a cs n in
      record { refuses = (c []).answer; closed_each = λ cs. (c cs).closed_each; stays = λ cs. (c cs).fixed }

  plain-answers : (cs : List Call) → given r cs ≡ given (plain (plain_table a) (not (eqb (admission_of a) open_so_far))) cs
  plain-answers cs = by (admitted_or_not a.params)
    where
      by : Dec (Admitted a) → given r cs ≡ given (plain (plain_table a) (not (eqb (admission_of a) open_so_far))) cs
      by (yes v) = rw (admits_true a.params v) ((admitted_demands v).any_list cs).plainly
      by (no n) = rw (admits_false a.params n) ((claim.refused sha256 a cs n).plainly ∙ sym (shut-same a true [] cs))

  ten_exactly : ((opened sha256 a).answer.number ≡ parameters_not_valid) ↔ (¬ Valid a.params)
  unfolding opened
  ten_exactly = (λ e. refused_not_valid a.params e, λ n. refused a.params n)

  closed_exactly : (cs : List Call) (i : ℕ) → i < length cs → ((nth r cs i).number ≡ closed) ↔ Closed a (take i cs)
  closed_exactly cs i h = (λ e. there (admitted_or_not a.params) e (has_end (take i cs)) refl, back)
    where
      there : Dec (Admitted a) → (nth r cs i).number ≡ closed → (b : Bool) → has_end (take i cs) ≡ b → Closed a (take i cs)
      there (no n) e b f = after_refusal n
      there (yes v) e true f = after_end_lem f
      there (yes v) e false f =
          let same : nth r cs i ≡ nth (plain (table sha256 a) false) cs i =
          ap (λ (l : List Answer). get_or l i (answered open_so_far 0)) (claim.opened sha256 a cs v).demand3.plainly in
          absurd (open_number a v false [] cs i h f (sym (ap (λ (a : Answer). a.number) same) ∙ e))

      back : Closed a (take i cs) → (nth r cs i).number ≡ closed
      back (after_refusal n) = ap (λ (a : Answer). a.number) ((refused_demands n).closed_each cs i h)
      back (after_end_lem f) = by (admitted_or_not a.params)
        where
          by : Dec (Admitted a) → (nth r cs i).number ≡ closed
          by (yes v) = ap (λ (a : Answer). a.number) ((claim.opened sha256 a cs v).demand3.after_end_lem i h f)
          by (no n) = ap (λ (a : Answer). a.number) ((refused_demands n).closed_each cs i h)

  by_value : Demands a (opened sha256 a).answer by_value_states r
  by_value = record {
    admitted_opening = admitted_demands;
    refused_opening = refused_demands;
    admits_exactly = (admitted-valid a.params, admitted a.params);
    plainly = plain-answers;
    row_10 = ten_exactly;
    row_11 = closed_exactly;
  }

  -- What a caller holds stands for a state of the reader.
  held_stands : Stands held_of r (boundary sha256 a)
  unfolding outcome_of
  held_stands = record {
    opened = refl;
    piece-next = λ s xs. ap (λ (x : Reader). held_of (pieced sha256 x xs).state) (round_trip s);
    piece-answer = λ s xs. ap (λ (x : Reader). (pieced sha256 x xs).answer) (round_trip s);
    end-next = λ s. ap (λ (x : Reader). held_of (ended x).state) (round_trip s);
    end-answer = λ s. ap (λ (x : Reader). (ended x).answer) (round_trip s);
  }

  lent : Demands a (outcome_of (opened sha256 a)).answer lent_states (boundary sha256 a)
  unfolding outcome_of held_of
  lent =
      demands_image held_of r (boundary sha256 a) held_stands a (opened sha256 a).answer by_value_states (λ h. h.tables) (λ s. refl)
      by_value

  pub meets : Readers a
  meets = record { table_rule = λ v. table_rule a v; by_value = by_value; lent = lent }
