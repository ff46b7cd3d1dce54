-- The reader's state: the lengths of items, the stopped states, and the move from one item to the next.
use Rattle.std.specs.Prelude.{ℕ, ◌+◌, List, replicate}
use Rattle.answer.specs.declared.Answer.{Answer}
use Rattle.answer.specs.Table.{answered, open_so_far, closed}
use Rattle.params.specs.declared.Params.{Params}
use Rattle.params.specs.Parameters.{header_size, from_header}
use Rattle.reader_model.specs.declared.Stage.{Stage}
use Rattle.reader_model.specs.declared.Stage.TheVariants.{ParameterCount, Parameters, RootCount, Root, CoefficientCount, Coefficient, QueryCount, Value, Sibling, Tail, Stopped}
use Rattle.reader_model.specs.declared.Cursor.{Cursor}
use Rattle.reader_model.specs.declared.Walk.{Walk}
use Rattle.reader_model.specs.declared.Core.{Core}
use Rattle.reader_model.specs.declared.Tables.{Tables}
use Rattle.reader_model.specs.declared.Reader.{Reader}

-- The number of bytes of a stage's item. A stopped reader reads none, so a byte is taken exactly where fewer than this are there.
abbrev pub item_length : Stage → ℕ
item_length ParameterCount = 2
item_length Parameters = header_size
item_length RootCount = 2
item_length Root = 32
item_length CoefficientCount = 2
item_length Coefficient = 4
item_length QueryCount = 2
item_length Value = 4
item_length Sibling = 32
item_length Tail = 1
item_length Stopped = 0

abbrev pub no_cursor : Cursor
no_cursor = record { start = 0; coefficient = 0; query = 0; layer = 0; value = 0; height = 0 }

abbrev pub no_walk : Walk
no_walk = record { index = 0; position = 0; values = replicate 4 0; scale = 0; folded = 0; node = replicate 32 0 }

abbrev pub no_parameters : Params
no_parameters = from_header (replicate header_size 0)

abbrev pub no_tables : Tables
no_tables = record { roots = replicate 512 0; challenges = replicate 16 0; coefficients = replicate 64 0 }

-- Stopped with this answer: nothing else is kept of the small part.
abbrev pub stopped : Answer → Core
stopped answer = record {
  stage = Stopped;
  answer = answer;
  fill = 0;
  item = replicate 32 0;
  params = no_parameters;
  cursor = no_cursor;
  walk = no_walk;
  transcript = replicate 32 0;
}

-- The closed state: one fixed value.
abbrev pub closed_state : Reader
closed_state = record { core = stopped (answered closed 0); tables = no_tables }

-- The parts of a state put together.
abbrev pub tables : List ℕ → List ℕ → List ℕ → Tables
tables roots challenges coefficients = record { roots = roots; challenges = challenges; coefficients = coefficients }

abbrev pub whole : Core → List ℕ → List ℕ → List ℕ → Reader
whole c roots challenges coefficients = record { core = c; tables = tables roots challenges coefficients }

abbrev pub keeping : Tables → Core → Reader
keeping t c = record { core = c; tables = t }

-- The bytes so far.
abbrev pub place : Core → ℕ
place c = c.cursor.start + c.fill

-- The same with another part.
abbrev pub with_core : Reader → Core → Reader
with_core r c = record { core = c; tables = r.tables }

abbrev pub with_item : Core → List ℕ → ℕ → Core
with_item c item fill = record { stage = c.stage; answer = c.answer; fill = fill; item = item; params = c.params; cursor = c.cursor; walk = c.walk; transcript = c.transcript }

abbrev pub with_cursor : Core → Cursor → Core
with_cursor c cursor = record { stage = c.stage; answer = c.answer; fill = c.fill; item = c.item; params = c.params; cursor = cursor; walk = c.walk; transcript = c.transcript }

abbrev pub with_walk : Core → Walk → Core
with_walk c walk = record { stage = c.stage; answer = c.answer; fill = c.fill; item = c.item; params = c.params; cursor = c.cursor; walk = walk; transcript = c.transcript }

abbrev pub with_transcript : Core → List ℕ → Core
with_transcript c transcript = record { stage = c.stage; answer = c.answer; fill = c.fill; item = c.item; params = c.params; cursor = c.cursor; walk = c.walk; transcript = transcript }

-- At the next item, of another stage.
abbrev pub moved_to : Core → Stage → Core
moved_to c stage = record {
  stage = stage;
  answer = answered open_so_far 0;
  fill = 0;
  item = c.item;
  params = c.params;
  cursor = record { start = place c; coefficient = c.cursor.coefficient; query = c.cursor.query; layer = c.cursor.layer; value = c.cursor.value; height = c.cursor.height };
  walk = c.walk;
  transcript = c.transcript;
}
