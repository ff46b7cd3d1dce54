-- An abbreviation of the private contracts.
use Rattle.std.specs.Prelude.{ℕ, List, get_or}
use Rattle.lent_reader.specs.declared.parts.Front.{Front}
use Rattle.lent_reader.specs.Held.{stage_of}

-- What a piece that ends inside the current item needs to know.
abbrev pub front_of : List ℕ → List ℕ → List ℕ → Front
front_of u8s u32s sizes = record { stage = stage_of (get_or u8s 0 0); start = get_or u32s 0 0; fill = get_or sizes 0 0 }
