-- The proof built from any polynomial of at most 2^(n−b) coefficients is accepted: for any hash of 32 bytes, and for SHA-256.
-- Assumes nothing.
use Prim.Native.Nat.{ℕ, ◌^◌, ◌-◌, ◌<◌, ◌≤◌}
use mathlib.Core.List.{List, []}
use mathlib.Core.Path.{◌≡◌, refl, ap}
use native.Mathlib.Omega.{arith}
use lib.ListN.{length, get_or}
use Rattle.answer.specs.Table.{answered, accepted}
use Rattle.sha256.specs.Sha256.{sha256}
use Rattle.sha256.proofs.HashLaws.{length-sha256, sha256-byte}
use Rattle.message.specs.Message.{Digest}
use Rattle.params.specs.declared.Params.{Params}
use Rattle.params.specs.declared.Terms.{Terms}
use Rattle.params.specs.Parameters.{Valid}
use Rattle.params.specs.Admission.{Admitted}
use Rattle.params.proofs.AdmissionLaws.{admitted-valid}
use Rattle.fri.specs.Judge.{verdict}
use Rattle.fri.specs.Accepted.{Accepted}
use Rattle.fri.proofs.Exactly.{accepted-verdict}
use Rattle.built.specs.Built.{build, built_file}
use Rattle.built.proofs.BuiltLayout.{built_layout}
use Rattle.built.proofs.Holds.{built_proof-holds}

module _
    (hash : List ℕ → Digest)
    (size : (xs : List ℕ) → length (hash xs) ≡ 32)
    (below : (xs : List ℕ) (i : ℕ) → i < 32 → get_or (hash xs) i 0 < 256) where
  -- A fold reduces its coefficients, so those of f may even be above the modulus.
  pub built_holds : (p : Params) (context f : List ℕ) → Valid p → length f ≤ 2 ^ (p.n - p.b)
      → Accepted hash p context (built_file hash p context f)
  unfolding built_file
  built_holds p context f v short =
      record {
        proof = build hash p context f;
        layout = built_layout hash size below p context f v short;
        bytes = refl;
        holds = built_proof-holds hash p context f v;
      }

-- With SHA-256 the built file is what an accepted file is, and so the verdict accepts it, at its length.
pub built_is_accepted : (p : Params) (context f : List ℕ) → Valid p → length f ≤ 2 ^ (p.n - p.b)
    → Accepted sha256 p context (built_file sha256 p context f)
built_is_accepted = built_holds sha256 length-sha256 sha256-byte

pub built_accepted : (a : Terms) (f : List ℕ) → Admitted a → length f ≤ 2 ^ (a.params.n - a.params.b)
    → verdict sha256 a (built_file sha256 a.params a.context f) ≡ answered accepted (length (built_file sha256 a.params a.context f))
built_accepted a f v short =
    accepted-verdict sha256 a (built_file sha256 a.params a.context f) v
    (built_is_accepted a.params a.context f (admitted-valid a.params v) short)

-- A proof built under one context is a proof under that context, whatever the context is. Nothing is claimed of it under another.
pub built_under_its_context : (a : Terms) (f : List ℕ) → Admitted a → length f ≤ 2 ^ (a.params.n - a.params.b)
    → (verdict sha256 a (built_file sha256 a.params a.context f)).number ≡ accepted
built_under_its_context a f v short = ap (λ x. x.number) (built_accepted a f v short)

-- The zero polynomial's proof is accepted.
pub zero_accepted : (a : Terms) → Admitted a
    → verdict sha256 a (built_file sha256 a.params a.context []) ≡ answered accepted (length (built_file sha256 a.params a.context []))
zero_accepted a v = built_accepted a [] v (omega arith)

-- Where the opening is admitted some bytes are accepted, so a reader that refuses everything does not answer the verdict.
pub refusing_all_fails : (a : Terms) → Admitted a → (file : List ℕ) × (verdict sha256 a file ≡ answered accepted (length file))
refusing_all_fails a v = (built_file sha256 a.params a.context [], zero_accepted a v)
