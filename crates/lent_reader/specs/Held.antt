-- The state as a caller holds it, numbers only, and the reader's state that it stands for. The stage is a number: 1 to 10 in the file's order, and every
-- other number is a stopped reader.
use Rattle.std.specs.Prelude.{ℕ, ◌+◌, cond, List, [], ◌∷◌, get_or, drop, replicate, eqb}
use Rattle.message.specs.Message.{Digest}
use Rattle.answer.specs.declared.Answer.{Answer}
use Rattle.params.specs.declared.Terms.{Terms}
use Rattle.params.specs.Parameters.{header_size, header, from_header}
use Rattle.calls.specs.Calls.{Reader as Calls}
use Rattle.reader_model.specs.declared.Stage.{Stage}
use Rattle.reader_model.specs.declared.Stage.TheVariants.{ParameterCount, Parameters, RootCount, Root, CoefficientCount, Coefficient, QueryCount, Value, Sibling, Tail, Stopped}
use Rattle.reader_model.specs.declared.Core.{Core}
use Rattle.reader_model.specs.declared.Tables.{Tables}
use Rattle.reader_model.specs.declared.Reader.{Reader}
use Rattle.reader_model.specs.declared.Reply.{Reply}
use Rattle.reader_model.specs.Model.{opened, pieced, ended}

abbrev pub number_of : Stage → ℕ
number_of Stopped = 0
number_of ParameterCount = 1
number_of Parameters = 2
number_of RootCount = 3
number_of Root = 4
number_of CoefficientCount = 5
number_of Coefficient = 6
number_of QueryCount = 7
number_of Value = 8
number_of Sibling = 9
number_of Tail = 10

unfoldable pub stage_of : ℕ → Stage
stage_of number =
    cond (eqb number 1) ParameterCount
    (cond (eqb number 2) Parameters
    (cond (eqb number 3) RootCount
    (cond (eqb number 4) Root
    (cond (eqb number 5) CoefficientCount
    (cond (eqb number 6) Coefficient
    (cond (eqb number 7) QueryCount
    (cond (eqb number 8) Value
    (cond (eqb number 9) Sibling
    (cond (eqb number 10) Tail Stopped)))))))))

-- The small part: its numbers of one, four and eight bytes, and its three runs of 32 bytes.
pub record Small : Type 0 where
  pub u8s : List ℕ
  pub u32s : List ℕ
  pub sizes : List ℕ
  pub item : List ℕ
  pub node : List ℕ
  pub transcript : List ℕ

abbrev pub small : List ℕ → List ℕ → List ℕ → List ℕ → List ℕ → List ℕ → Small
small u8s u32s sizes item node transcript = record { u8s = u8s; u32s = u32s; sizes = sizes; item = item; node = node; transcript = transcript }

unfoldable pub small_of : Core → Small
small_of c = record {
  u8s = number_of c.stage ∷ c.cursor.query ∷ c.cursor.layer ∷ c.cursor.value ∷ c.cursor.height ∷ c.answer.number ∷ header c.params;
  u32s = c.cursor.start ∷ c.walk.index ∷ c.walk.position ∷ c.walk.scale ∷ c.walk.folded ∷ c.answer.place ∷ c.walk.values;
  sizes = c.fill ∷ c.cursor.coefficient ∷ [];
  item = c.item;
  node = c.walk.node;
  transcript = c.transcript;
}

unfoldable pub core_of : Small → Core
core_of s = record {
  stage = stage_of (get_or s.u8s 0 0);
  answer = record { number = get_or s.u8s 5 0; place = get_or s.u32s 5 0 };
  fill = get_or s.sizes 0 0;
  item = s.item;
  params = from_header (drop 6 s.u8s);
  cursor = record {
    start = get_or s.u32s 0 0;
    coefficient = get_or s.sizes 1 0;
    query = get_or s.u8s 1 0;
    layer = get_or s.u8s 2 0;
    value = get_or s.u8s 3 0;
    height = get_or s.u8s 4 0;
  };
  walk = record {
    index = get_or s.u32s 1 0;
    position = get_or s.u32s 2 0;
    values = drop 6 s.u32s;
    scale = get_or s.u32s 3 0;
    folded = get_or s.u32s 4 0;
    node = s.node;
  };
  transcript = s.transcript;
}

-- What a caller holds between two calls: the small part and the tables, all of it lent.
pub record Held : Type 0 where
  pub small : Small
  pub tables : Tables

abbrev pub held : List ℕ → List ℕ → List ℕ → List ℕ → List ℕ → List ℕ → List ℕ → List ℕ → List ℕ → Held
held u8s u32s sizes item node transcript roots challenges coefficients = record {
  small = small u8s u32s sizes item node transcript;
  tables = record { roots = roots; challenges = challenges; coefficients = coefficients };
}

-- Memory of zeros.
abbrev pub zeros : Held
zeros =
    held (replicate (6 + header_size) 0) (replicate 10 0) (replicate 2 0) (replicate 32 0) (replicate 32 0) (replicate 32 0)
    (replicate 512 0) (replicate 16 0) (replicate 64 0)

unfoldable pub held_of : Reader → Held
held_of r = record { small = small_of r.core; tables = r.tables }

abbrev pub reader_of : Held → Reader
reader_of h = record { core = core_of h.small; tables = h.tables }

-- What a call gives: its answer, and what the caller holds after it.
pub record Outcome : Type 0 where
  pub answer : Answer
  pub held : Held

-- Of what is returned and what is left in the arrays; and of the reader's reply.
abbrev pub outcome : Answer → List ℕ → List ℕ → List ℕ → List ℕ → List ℕ → List ℕ → List ℕ → List ℕ → List ℕ → Outcome
outcome answer u8s u32s sizes item node transcript roots challenges coefficients = record {
  answer = answer;
  held = held u8s u32s sizes item node transcript roots challenges coefficients;
}

unfoldable pub outcome_of : Reply → Outcome
outcome_of r = record { answer = r.answer; held = held_of r.state }

-- The reader as a caller has it, whose states are the caller's: the calls equal these, each by its contract.
abbrev pub boundary : (List ℕ → Digest) → Terms → Calls Held
boundary hash a = record {
  opened = (outcome_of (opened hash a)).held;
  piece_next = λ h bytes. (outcome_of (pieced hash (reader_of h) bytes)).held;
  piece_answer = λ h bytes. (outcome_of (pieced hash (reader_of h) bytes)).answer;
  end_next = λ h. (outcome_of (ended (reader_of h))).held;
  end_answer = λ h. (outcome_of (ended (reader_of h))).answer;
}
