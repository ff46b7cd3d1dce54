-- A list of calls made through the boundary gets exactly the reader's answers. Assumes nothing.
use Prim.Native.Nat.{ℕ, ◌<◌}
use mathlib.Core.Bool.{true}
use mathlib.Core.List.{List, [], ◌∷◌, map}
use mathlib.Core.Path.{◌≡◌, refl, ap, ◌∙◌}
use lib.ListN.{length, get_or}
use Rattle.message.specs.Message.{Digest}
use Rattle.params.specs.declared.Terms.{Terms}
use Rattle.params.specs.Admission.{Admitted}
use Rattle.fri.specs.Judge.{verdict}
use Rattle.answer.specs.Table.{answered, open_so_far, closed}
use Rattle.calls.specs.Calls.{Call, piece, end, ends_once, joined, answers, given, last_or, last_given}
use Rattle.reader_model.specs.declared.Stage.{Stage}
use Rattle.reader_model.specs.declared.Stage.TheVariants.{ParameterCount, Parameters, RootCount, Root, CoefficientCount, Coefficient, QueryCount, Value, Sibling, Tail, Stopped}
use Rattle.reader_model.specs.declared.Reader.{Reader}
use Rattle.reader_model.specs.declared.Reply.{Reply}
use Rattle.reader_model.specs.Model.{opened, pieced, ended}
use Rattle.reader_model.specs.Claim.{reader, is_number_for}
use Rattle.reader_model.proofs.Theorem.{claim}
use Rattle.reader_model.proofs.Forged.{closed_each}
use Rattle.reader_model.proofs.Forged
use Rattle.lent_reader.specs.Held.{Held, zeros, Outcome, number_of, stage_of, small_of, core_of, reader_of, held_of, outcome_of, boundary}

-- A reader's state survives the way out and back, in all its fields.
stage_round : (stage : Stage) → stage_of (number_of stage) ≡ stage
unfolding stage_of
stage_round ParameterCount = refl
stage_round Parameters = refl
stage_round RootCount = refl
stage_round Root = refl
stage_round CoefficientCount = refl
stage_round Coefficient = refl
stage_round QueryCount = refl
stage_round Value = refl
stage_round Sibling = refl
stage_round Tail = refl
stage_round Stopped = refl

pub round_trip : (r : Reader) → reader_of (held_of r) ≡ r
unfolding core_of held_of small_of
round_trip r = rw (stage_round r.core.stage)

-- What a call leaves is the reply's state, and what it answers the reply's answer.
pub left_by : {x : Outcome} (y : Reply) → x ≡ outcome_of y → reader_of x.held ≡ y.state
unfolding outcome_of
left_by {x} y e = ap (λ (o : Outcome). reader_of o.held) e ∙ round_trip y.state

pub answered_by : {x : Outcome} (y : Reply) → x ≡ outcome_of y → x.answer ≡ y.answer
unfolding outcome_of
answered_by y e = ap (λ (o : Outcome). o.answer) e

module _ (hash : List ℕ → Digest) (a : Terms) where
  after : (x : Reader) (cs : List Call) → answers (boundary hash a) (held_of x) cs ≡ answers (reader hash a) (reader_of (held_of x)) cs
      → answers (boundary hash a) (held_of x) cs ≡ answers (reader hash a) x cs
  after x cs e = e ∙ ap (λ r. answers (reader hash a) r cs) (round_trip x)

  -- From any state on, one that no call made too, the answers are the reader's from the state that it stands for.
  pub from_any_state : (h : Held) (cs : List Call) → answers (boundary hash a) h cs ≡ answers (reader hash a) (reader_of h) cs
  unfolding outcome_of
  from_any_state h [] = refl
  from_any_state h (piece bytes ∷ cs) =
      let reply = pieced hash (reader_of h) bytes in
      ap (λ more. reply.answer ∷ more) (after reply.state cs (from_any_state (held_of reply.state) cs))
  from_any_state h (end ∷ cs) =
      let reply = ended (reader_of h) in
      ap (λ more. reply.answer ∷ more) (after reply.state cs (from_any_state (held_of reply.state) cs))

  -- So there too each call gets a number that the table has for it; and memory of zeros is a closed reader.
  pub in_the_table : (h : Held) (cs : List Call) (i : ℕ) → i < length cs
      → is_number_for (get_or cs i end) (get_or (answers (boundary hash a) h cs) i (answered closed 0)).number ≡ true
  in_the_table h cs i e = rw (from_any_state h cs) (Forged.in_the_table hash a (reader_of h) cs i e)

  pub zeros-closed : (cs : List Call) → answers (boundary hash a) zeros cs ≡ map (λ _. answered closed 0) cs
  unfolding core_of stage_of
  zeros-closed cs = from_any_state zeros cs ∙ closed_each hash a (reader_of zeros) refl refl cs

  -- From the state that the opening left on.
  pub through_the_boundary : (cs : List Call) → given (boundary hash a) cs ≡ given (reader hash a) cs
  unfolding outcome_of
  through_the_boundary cs =
      let first = (opened hash a).state in
      after first cs (from_any_state (held_of first) cs)

  -- So the last answer, to an end call, is the verdict on the bytes joined.
  pub verdict_through : Admitted a → (cs : List Call) → ends_once cs ≡ true → last_given (boundary hash a) cs ≡ verdict hash a (joined cs)
  verdict_through v cs e = ap (last_or (answered open_so_far 0)) (through_the_boundary cs) ∙ (claim.opened hash a cs v).verdicts e
