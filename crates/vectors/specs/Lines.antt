-- What is written of the file of vectors. An input or an output of which nothing is known says nothing.
use Rattle.std.specs.Prelude.{◌≡◌, ℕ, zero, suc, ◌+◌, ◌*◌, List, [], ◌∷◌, ◌++◌, cond, eqb, length, get_or, codes}
use Rattle.std.specs.Prelude as library
use Rattle.std.specs.declared.option.Option as rust
use Rattle.std.specs.Io.KnownBytes.{Consumes, Appends}
use Rattle.hex.specs.Hex.{encode_lower}
use Rattle.answer.specs.Table.{open_so_far}
use Rattle.sha256.specs.Hash.{hashed}
use Rattle.sha256.specs.declared.Hashed.{Hashed}
use Rattle.vectors.specs.Monte.{checkpoint}

-- A digest in hexadecimal and a newline.
abbrev pub digest_line : List ℕ → List ℕ
digest_line digest = encode_lower digest ++ (10 ∷ [])

-- The line of a hash's answer: the digest, or `refused NUMBER`.
abbrev pub hashed_line : Hashed → List ℕ
hashed_line h = cond (eqb h.answer.number open_so_far) (digest_line h.digest) (codes "refused " ++ (library.decimal h.answer.number ++ (10 ∷ [])))

-- From what the input and the output were to what they are: a message was taken, after its length in 2 bytes, low byte first, and its line was written.
abbrev pub TellsMessage : rust.Option (List ℕ) → rust.Option (List ℕ) → rust.Option (List ℕ) → rust.Option (List ℕ) → Type 0
TellsMessage before after old new =
    (size message : List ℕ) × (length size ≡ 2) × (length message ≡ get_or size 0 0 + 256 * get_or size 1 0)
    × Consumes before after (size ++ message) × Appends old new (hashed_line (hashed message))

-- The lines of so many checkpoints, each the seed of the next.
abbrev pub checkpoint_lines : ℕ → List ℕ → List ℕ
checkpoint_lines zero seed = []
checkpoint_lines (suc n) seed = digest_line (checkpoint seed) ++ checkpoint_lines n (checkpoint seed)

-- The same of the Monte test: the seed was taken, and a hundred lines were written.
abbrev pub TellsMonte : rust.Option (List ℕ) → rust.Option (List ℕ) → rust.Option (List ℕ) → rust.Option (List ℕ) → Type 0
TellsMonte before after old new = (seed : List ℕ) × (length seed ≡ 32) × Consumes before after seed × Appends old new (checkpoint_lines 100 seed)
