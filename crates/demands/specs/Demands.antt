-- The user's second and third demand, and document 01's table and rules, of the two readers that the code is: the one by value, and the one that a caller
-- holds in arrays which it lends. Their calls are the right-hand sides of the contracts of `open`, `piece` and `end`, with SHA-256 for the hash. The
-- first demand is the contracts themselves.
use Rattle.std.specs.Prelude.{ℕ, ◌^◌, ◌-◌, ◌≤◌, ◌<◌, true, false, not, List, [], ◌∷◌, ◌++◌, ◌↔◌, ◌≡◌, eqb, length, take}
use Rattle.std.proofs.Math.Option.{none, some}
use Rattle.answer.specs.declared.Answer.{Answer}
use Rattle.answer.specs.Table.{answered, open_so_far, accepted, parameters_not_valid, closed}
use Rattle.sha256.specs.Sha256.{sha256}
use Rattle.message.specs.Bytes.{Bytes}
use Rattle.params.specs.declared.Terms.{Terms}
use Rattle.params.specs.Parameters.{Valid}
use Rattle.params.specs.Admission.{admission_of, Admitted}
use Rattle.fri.specs.Size.{known_length, is_whole_file}
use Rattle.fri.specs.Accepted.{Accepted}
use Rattle.rules.specs.Rules.{Refused, NoFault, PieceRow, VerdictRow}
use Rattle.calls.specs.Calls.{Call, has_end, ends_once, joined, state_left, given, nth, last_given, Refuses, Reader as Calls}
use Rattle.calls.specs.Plain.{Table, decide, plain}
use Rattle.calls.specs.Demand3.{Demand3, StateRule, PrefixRule, SizeRule, to_piece}
use Rattle.reader_model.specs.declared.Tables.{Tables}
use Rattle.reader_model.specs.declared.Reader.{Reader}
use Rattle.reader_model.specs.State.{stopped, closed_state}
use Rattle.reader_model.specs.Model.{opened}
use Rattle.reader_model.specs.Claim.{table, reader}
use Rattle.lent_reader.specs.Held.{Held, held_of, outcome_of, boundary}
use Rattle.built.specs.Built.{built_file}

-- The plain reader's table in document 01's words: the bytes are a whole file if they are as many as it has. Which byte decides which refusal is said
-- row by row in `TableRule`.
abbrev pub plain_table : Terms → Table
plain_table a = record { refusal = (table sha256 a).refusal; whole = is_whole_file a.params }

-- What the plain reader finds in the bytes bs is what the rows say: the one refusal by the rows, or none where no rule holds.
pub record TableRule (a : Terms) : Type 0 where
  pub refuses : (bs : List ℕ) (c d : ℕ) → decide (plain_table a) bs ≡ some (answered c d) ↔ Refused sha256 a.params a.context bs c d
  pub silent : (bs : List ℕ) → decide (plain_table a) bs ≡ none ↔ NoFault sha256 a.params a.context bs

-- A reader is closed for the call after these: an end call is among them, or the opening was refused.
pub data Closed (a : Terms) (before : List Call) : Type 0 where
  after_end_lem : has_end before ≡ true → Closed a before
  after_refusal : ¬ Admitted a → Closed a before

-- A reader's states by their parts: the closed one, the tables in a state, and a refused one, of its answer and its tables.
pub record States (S : Type 0) : Type 0 where
  pub shut : S
  pub tables_in : S → Tables
  pub refused_with : Answer → Tables → S

-- Of a reader whose opening gave this answer. First, where the opening is admitted.
pub record WhenAdmitted {S : Type 0} (a : Terms) (opening : Answer) (k : States S) (r : Calls S) : Type 0 where
  pub opens : opening ≡ answered open_so_far 0
  -- The second demand, first half: after any pieces, the end call answers accepted, at their number, exactly if the bytes have the published layout and
  -- everything in them holds.
  pub accepts_exactly : (cs : List Call) → ends_once cs ≡ true → Bytes (joined cs)
      → (last_given r cs ≡ answered accepted (length (joined cs))) ↔ Accepted sha256 a.params a.context (joined cs)
  -- Its second half: the proof built from any polynomial under the degree bound is accepted, in whatever pieces it comes.
  pub accepts_built : (f : List ℕ) → length f ≤ 2 ^ (a.params.n - a.params.b) → (cs : List Call) → ends_once cs ≡ true
      → joined cs ≡ built_file sha256 a.params a.context f → last_given r cs ≡ answered accepted (length (joined cs))
  -- The third demand.
  pub any_list : (cs : List Call) → Demand3 (plain_table a) r cs
  -- The table: what a piece gets after calls with no end call among them, and what the first end call gets, by the rows.
  pub piece_row : (cs : List Call) (xs : List ℕ) → has_end cs ≡ false → (c d : ℕ)
      → (to_piece r cs xs ≡ answered c d) ↔ PieceRow sha256 a.params a.context (joined cs ++ xs) c d
  pub end_row : (cs : List Call) → ends_once cs ≡ true → (c d : ℕ) → (last_given r cs ≡ answered c d) ↔ VerdictRow sha256 a (joined cs) c d
  -- The rules on refused and closed states, on inputs that agree up to a byte, and on the file's size.
  pub states : (cs : List Call) → StateRule r cs
  pub prefixes : PrefixRule r
  pub sizes : (cs : List Call) → SizeRule (known_length a.params) r cs
  -- What is left behind. By an end call and any call after it: the closed state. By a byte that is refused: the refused state with its answer, and with
  -- the tables that were there before it. (Pieces leave what their bytes leave one by one, and a piece after a refusal leaves the state as it is.)
  pub closes : (cs : List Call) → has_end cs ≡ true → state_left r cs ≡ k.shut
  pub refused_leaves : (cs : List Call) (x : ℕ) → has_end cs ≡ false → Refuses (to_piece r cs (x ∷ []))
      → r.piece_next (state_left r cs) (x ∷ []) ≡ k.refused_with (to_piece r cs (x ∷ [])) (k.tables_in (state_left r cs))

-- Where it is refused: the admission's number at 0, and then closed, in the one closed state.
pub record WhenRefused {S : Type 0} (a : Terms) (opening : Answer) (k : States S) (r : Calls S) : Type 0 where
  pub refuses : opening ≡ answered (admission_of a) 0
  pub closed_each : (cs : List Call) (i : ℕ) → i < length cs → nth r cs i ≡ answered closed 0
  pub stays : (cs : List Call) → state_left r cs ≡ k.shut

-- With any arguments.
pub record Demands {S : Type 0} (a : Terms) (opening : Answer) (k : States S) (r : Calls S) : Type 0 where
  pub admitted_opening : Admitted a → WhenAdmitted a opening k r
  pub refused_opening : ¬ Admitted a → WhenRefused a opening k r
  -- Admitted are exactly the openings with valid parameters.
  pub admits_exactly : Admitted a ↔ Valid a.params
  -- Every answer is the plain reader's, which is closed from the start exactly if the opening is refused by its rules.
  pub plainly : (cs : List Call) → given r cs ≡ given (plain (plain_table a) (not (eqb (admission_of a) open_so_far))) cs
  -- 10 is the opening's answer exactly if the parameters are not valid; 11 is a call's number exactly if the reader is closed for it.
  pub row_10 : (opening.number ≡ parameters_not_valid) ↔ (¬ Valid a.params)
  pub row_11 : (cs : List Call) (i : ℕ) → i < length cs → ((nth r cs i).number ≡ closed) ↔ Closed a (take i cs)

-- The states of the reader by value, and of the one that a caller holds.
abbrev pub by_value_states : States Reader
by_value_states = record { shut = closed_state; tables_in = λ r. r.tables; refused_with = λ a t. record { core = stopped a; tables = t } }

abbrev pub lent_states : States Held
lent_states = record { shut = held_of closed_state; tables_in = λ h. h.tables; refused_with = λ a t. held_of (record { core = stopped a; tables = t }) }

-- Of both readers.
pub record Readers (a : Terms) : Type 0 where
  pub table_rule : Admitted a → TableRule a
  pub by_value : Demands a (opened sha256 a).answer by_value_states (reader sha256 a)
  pub lent : Demands a (outcome_of (opened sha256 a)).answer lent_states (boundary sha256 a)
