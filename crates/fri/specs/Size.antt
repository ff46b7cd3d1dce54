-- The length of a file as its bytes tell it.
use Rattle.std.specs.Prelude.{ℕ, Bool, false, List, eqb, length}
use Rattle.std.proofs.Math.Option.{Option, none, some}
use Rattle.params.specs.declared.Params.{Params}
use Rattle.params.specs.Parameters.{file_length}

-- The length of a file that begins with these bytes, or none while they do not tell it yet. In this layout the parameters alone give it: L.
abbrev pub known_length : Params → List ℕ → Option ℕ
known_length p bs = some (file_length p)

-- These bytes are as many as the file has.
abbrev pub has_all : List ℕ → Option ℕ → Bool
has_all bs none = false
has_all bs (some size) = eqb (length bs) size

abbrev pub is_whole_file : Params → List ℕ → Bool
is_whole_file p bs = has_all bs (known_length p bs)
