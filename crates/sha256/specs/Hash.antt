-- What the public hash answers (document 01, "The field").
use Rattle.std.specs.Prelude.{cond, List, ℕ, leb, length, replicate}
use Rattle.answer.specs.Table.{answered, open_so_far, message_too_long}
use Rattle.sha256.specs.declared.Hashed.{Hashed}
use Rattle.sha256.specs.Sha256.{sha256}

abbrev pub digested : List ℕ → Hashed
digested m = record { answer = answered open_so_far 0; digest = sha256 m }

abbrev pub too_long : Hashed
too_long = record { answer = answered message_too_long 0; digest = replicate 32 0 }

-- a message of at most 4,096 bytes has its digest, and a longer one is refused
unfoldable pub hashed : List ℕ → Hashed
hashed m = cond (leb (length m) 4096) (digested m) too_long
