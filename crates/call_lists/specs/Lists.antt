-- Scripts: how a list of calls stands in the input, and what is written of it. An input or an output of which nothing is known says nothing.
use Rattle.std.specs.Prelude.{◌≡◌, ℕ, ◌<◌, ◌+◌, ◌*◌, List, [], ◌∷◌, ◌++◌, map, length, get_or, codes}
use Rattle.std.specs.Prelude as library
use Rattle.std.specs.declared.option.Option as rust
use Rattle.std.specs.Io.KnownBytes.{Consumes, Appends}
use Rattle.answer.specs.declared.Answer.{Answer}
use Rattle.sha256.specs.Sha256.{sha256}
use Rattle.params.specs.declared.Terms.{Terms}
use Rattle.params.specs.Parameters.{from_header, header_size}
use Rattle.params.specs.Admission.{terms_of}
use Rattle.message.specs.Bytes.{joined}
use Rattle.calls.specs.Calls.{Call, piece, end, given}
use Rattle.reader_model.specs.declared.Reader.{Reader}
use Rattle.reader_model.specs.declared.Reply.{Reply}
use Rattle.reader_model.specs.Claim.{reader}
use Rattle.reader_model.specs.Model.{opened, pieced, ended}

-- The number in 2 bytes, low byte first.
abbrev pub number_in : List ℕ → ℕ
number_in size = get_or size 0 0 + 256 * get_or size 1 0

-- How a call stands in the input: 2 bytes, which are ffff for the end call, and for a piece its length; its bytes follow.
abbrev pub Encodes : List ℕ → Call → Type 0
Encodes bytes end = (length bytes ≡ 2) × (number_in bytes ≡ 65535)
Encodes bytes (piece part) = (size : List ℕ) × (length size ≡ 2) × (number_in size < 65535) × (length part ≡ number_in size) × (bytes ≡ size ++ part)

-- Calls one after the other.
abbrev pub EncodesAll : List ℕ → List Call → Type 0
EncodesAll bytes [] = bytes ≡ []
EncodesAll bytes (c ∷ cs) = (first rest : List ℕ) × Encodes first c × EncodesAll rest cs × (bytes ≡ first ++ rest)

-- `NUMBER PLACE` and a newline.
abbrev pub answer_line : Answer → List ℕ
answer_line a = library.decimal a.number ++ (32 ∷ (library.decimal a.place ++ (10 ∷ [])))

-- What the model of the reader gives to a call.
abbrev pub replied : Reader → Call → Reply
replied state (piece bytes) = pieced sha256 state bytes
replied state end = ended state

-- From what the input and the output were to what they are: a piece of so many bytes was taken, its line was written, and this state was left.
abbrev pub RunsPiece : rust.Option (List ℕ) → rust.Option (List ℕ) → rust.Option (List ℕ) → rust.Option (List ℕ) → Reader → ℕ → Reader → Type 0
RunsPiece before after old new state count next =
    (bytes : List ℕ) × (length bytes ≡ count) × Consumes before after bytes × (next ≡ (pieced sha256 state bytes).state)
    × Appends old new (answer_line (pieced sha256 state bytes).answer)

-- The same of a call.
abbrev pub RunsCall : rust.Option (List ℕ) → rust.Option (List ℕ) → rust.Option (List ℕ) → rust.Option (List ℕ) → Reader → Reader → Type 0
RunsCall before after old new state next =
    (call : Call) × (bytes : List ℕ) × Encodes bytes call × Consumes before after bytes × (next ≡ (replied state call).state)
    × Appends old new (answer_line (replied state call).answer)

-- The lines of calls, each on the state that the call before it left.
abbrev pub lines : Reader → List Call → List ℕ
lines state [] = []
lines state (c ∷ cs) = answer_line (replied state c).answer ++ lines (replied state c).state cs

-- The same of so many calls.
abbrev pub RunsCalls : rust.Option (List ℕ) → rust.Option (List ℕ) → rust.Option (List ℕ) → rust.Option (List ℕ) → Reader → ℕ → Type 0
RunsCalls before after old new state count =
    (calls : List Call) × (bytes : List ℕ) × (length calls ≡ count) × EncodesAll bytes calls × Consumes before after bytes × Appends old new (lines state calls)

-- `open `, the answer to the opening, and the answers that the reader gives to the calls, in the words of the claim about it.
abbrev pub script_lines : Terms → List Call → List ℕ
script_lines a calls = codes "open " ++ (answer_line (opened sha256 a).answer ++ joined (map answer_line (given (reader sha256 a) calls)))

-- The same of an opening and so many calls.
abbrev pub RunsOpened : rust.Option (List ℕ) → rust.Option (List ℕ) → rust.Option (List ℕ) → rust.Option (List ℕ) → Terms → ℕ → Type 0
RunsOpened before after old new a count =
    (calls : List Call) × (bytes : List ℕ) × (length calls ≡ count) × EncodesAll bytes calls × Consumes before after bytes × Appends old new (script_lines a calls)

-- The same of a script: what the opening is asked for stands before the number of calls.
abbrev pub RunsScript : rust.Option (List ℕ) → rust.Option (List ℕ) → rust.Option (List ℕ) → rust.Option (List ℕ) → Type 0
RunsScript before after old new =
    (header context size bytes : List ℕ) × (calls : List Call)
    × (length header ≡ header_size) × (length context ≡ 32) × (length size ≡ 2) × (length calls ≡ number_in size) × EncodesAll bytes calls
    × Consumes before after (header ++ (context ++ (size ++ bytes))) × Appends old new (script_lines (terms_of (from_header header) context) calls)
