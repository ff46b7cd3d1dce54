-- Abbreviations of the private contracts.
use Rattle.std.specs.Prelude.{◌+◌, ◌≤◌, ◌<◌, Bool, true, false, ◌&&◌, ltb}
use Rattle.sha256.specs.Sha256.{sha256}
use Rattle.params.specs.Parameters.{height}
use Rattle.reader_model.specs.declared.Stage.{Stage}
use Rattle.reader_model.specs.declared.Stage.TheVariants.{ParameterCount, Parameters, RootCount, Root, CoefficientCount, Coefficient, QueryCount, Value, Sibling, Tail, Stopped}
use Rattle.reader_model.specs.declared.Core.{Core}
use Rattle.reader_model.specs.State.{with_walk, moved_to}
use Rattle.reader_model.specs.Items.{sane, at_height, climbed}

-- The bounds of a sane state, as facts.
pub record Sane (c : Core) : Type 0 where
  pub fill : c.fill ≤ 32
  pub start : c.cursor.start < 2147483648
  pub coefficient : c.cursor.coefficient < 64
  pub query : c.cursor.query < 128
  pub layer : c.cursor.layer < 16
  pub value : c.cursor.value < 4
  pub height : c.cursor.height < 32

abbrev pub is_sibling : Stage → Bool
is_sibling ParameterCount = false
is_sibling Parameters = false
is_sibling RootCount = false
is_sibling Root = false
is_sibling CoefficientCount = false
is_sibling Coefficient = false
is_sibling QueryCount = false
is_sibling Value = false
is_sibling Sibling = true
is_sibling Tail = false
is_sibling Stopped = false

-- Whether the item of a sane state is a sibling and not the last of its path, and the state after it.
abbrev pub goes_on : Core → Bool
goes_on c = sane c && (is_sibling c.stage && ltb (c.cursor.height + 1) (height c.params c.cursor.layer))

abbrev pub risen : Core → Core
risen c = moved_to (at_height (with_walk c (climbed sha256 c)) (c.cursor.height + 1)) c.stage
