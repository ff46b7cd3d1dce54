-- The round trip (request 2026-02): what the writer answers and leaves are the right-hand sides of its contract, and the reader's calls are those of `open`,
-- `piece` and `end`, both with SHA-256 for the hash.
use Rattle.std.specs.Prelude.{ℕ, ◌*◌, ◌^◌, ◌-◌, ◌≤◌, true, List, ◌↔◌, ◌≡◌, length, take}
use Rattle.answer.specs.Table.{answered, open_so_far, accepted}
use Rattle.sha256.specs.Sha256.{sha256}
use Rattle.params.specs.declared.Params.{Params}
use Rattle.params.specs.Parameters.{file_length}
use Rattle.params.specs.Admission.{admission, terms_of}
use Rattle.fold.specs.Poly.{Below}
use Rattle.calls.specs.Calls.{Call, ends_once, joined, last_given}
use Rattle.reader_model.specs.Claim.{reader}
use Rattle.writer.specs.Writer.{written}

-- What a call of the writer needs to succeed.
pub record Fits (p : Params) (f numbers bytes output : List ℕ) : Type 0 where
  pub admitted : admission p ≡ open_so_far
  pub count : length f ≡ 2 ^ (p.n - p.b)
  pub below : Below f
  pub numbers_fit : 2 * 2 ^ p.n ≤ length numbers
  pub bytes_fit : 64 * 2 ^ p.n ≤ length bytes
  pub output_fits : file_length p ≤ length output

pub record RoundTrip (p : Params) (context f numbers bytes output : List ℕ) : Type 0 where
  -- It writes exactly if nothing is wrong with what it is given.
  pub writes_exactly : ((written sha256 p context f numbers bytes output).answer ≡ answered open_so_far (file_length p)) ↔ Fits p f numbers bytes output
  -- What it has written is accepted: after any pieces that join to the first L bytes of the output, the end call answers accepted, at their number.
  pub accepts_written : (written sha256 p context f numbers bytes output).answer ≡ answered open_so_far (file_length p)
      → (cs : List Call) → ends_once cs ≡ true → joined cs ≡ take (file_length p) (written sha256 p context f numbers bytes output).output
      → last_given (reader sha256 (terms_of p context)) cs ≡ answered accepted (length (joined cs))
