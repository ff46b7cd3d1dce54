-- The verdict accepts exactly the accepted files, each at its own length, which is L; no property of the hash is used. Assumes nothing.
use Prim.Native.Nat.{ℕ, ◌+◌}
use mathlib.Core.List.{List, [], ◌++◌, append-nil}
use mathlib.Core.Path.{◌≡◌, ap, sym, ◌∙◌, subst}
use native.Mathlib.Nat.{zero-add}
use lib.ListN.{length}
use Rattle.answer.specs.Table.{answered, accepted}
use Rattle.sha256.specs.Sha256.{sha256}
use Rattle.params.specs.declared.Params.{Params}
use Rattle.params.specs.declared.Terms.{Terms}
use Rattle.params.specs.Parameters.{header, file_length}
use Rattle.params.specs.Admission.{Admitted}
use Rattle.params.proofs.AdmissionLaws.{admits_true, admitted-valid}
use Rattle.transcript.specs.Transcript.{start}
use Rattle.message.specs.Message.{Digest}
use Rattle.message.specs.Bytes.{Bytes}
use Rattle.fri.specs.Process.{left, outcome, run, done, ended}
use Rattle.fri.specs.Judge.{sections, judgement, end_answer, verdict}
use Rattle.fri.specs.Accepted.{Accepted}
use Rattle.fri.proofs.Process.{extent, Reads}
use Rattle.fri.proofs.Width.{judgement_width, accepts_width}
use Rattle.fri.proofs.Reading.{reads_sections}
use Rattle.fri.proofs.Inversion.{inverts_sections}

no_tail : {xs : List ℕ} {at place : ℕ} → ended xs at ≡ ended [] place → xs ≡ []
no_tail e = cc

module _ (hash : List ℕ → Digest) (a : Terms) (file : List ℕ) (v : Admitted a) where
  abbrev p : Params
  p = a.params

  abbrev context : List ℕ
  context = a.context

  -- Where the opening is admitted the verdict is the judgement's.
  verdict-admitted : verdict hash a file ≡ end_answer (run (judgement hash p context) file 0) (length file)
  unfolding verdict
  verdict-admitted = rw (admits_true p v)

  -- What the judgement's width says of an accepted file.
  ended-file : (place : ℕ) → verdict hash a file ≡ answered accepted place
      → (run (judgement hash p context) file 0 ≡ ended [] place) × (place ≡ file_length p) × (length file ≡ file_length p)
  ended-file place e =
      accepts_width (file_length p) file (run (judgement hash p context) file 0) place
      (extent (judgement_width hash p context) file 0) (sym verdict-admitted ∙ e)

  -- A file is accepted at L only, and only if that is its length.
  pub accepted_place : (place : ℕ) → verdict hash a file ≡ answered accepted place → (place ≡ file_length p) × (length file ≡ file_length p)
  accepted_place place e = ((ended-file place e).1, (ended-file place e).2)

  -- A file that the verdict accepts is the encoding of a proof that holds.
  pub verdict-accepted : Bytes file → verdict hash a file ≡ answered accepted (length file) → Accepted hash p context file
  unfolding judgement run left outcome
  verdict-accepted h e =
      let x = (inverts_sections hash p context).invert (λ _. done) file 0 [] (length file) h (ended-file (length file) e).0 in
      let none : x.tail ≡ [] = no_tail x.goes in
      subst (Accepted hash p context) (sym (x.whole ∙ ap (λ u. x.used ++ u) none ∙ append-nil x.used)) x.related

  -- The encoding of a proof that holds is read to its end. This way needs nothing of the bytes.
  pub accepted-verdict : Accepted hash p context file → verdict hash a file ≡ answered accepted (length file)
  unfolding judgement run left outcome end_answer
  accepted-verdict h = verdict-admitted ∙ ap (λ l. end_answer (outcome l.process l.held l.place) (length file)) all ∙ ap (answered accepted) (zero-add (length file))
    where
      reads : Reads (sections hash p (start hash (header p) context)) file tt
      reads = rw h.bytes (reads_sections hash p context h.proof (admitted-valid p v) h.layout h.holds)

      all : left (judgement hash p context) file 0 ≡ left done [] (0 + length file)
      all = ap (λ u. left (judgement hash p context) u 0) (sym (append-nil file)) ∙ reads.reads (λ _. done) [] 0

  -- And its length is L.
  pub accepted-length : Accepted hash p context file → length file ≡ file_length p
  accepted-length h = (accepted_place (length file) (accepted-verdict h)).1

-- The theorem.
pub accepted_exactly : (hash : List ℕ → Digest) (a : Terms) (file : List ℕ) → Admitted a → Bytes file
    → (verdict hash a file ≡ answered accepted (length file) → Accepted hash a.params a.context file)
    × (Accepted hash a.params a.context file → verdict hash a file ≡ answered accepted (length file))
accepted_exactly hash a file v h = (verdict-accepted hash a file v h, accepted-verdict hash a file v)

-- At the hash that the code has.
pub at_sha256 : (a : Terms) (file : List ℕ) → Admitted a → Bytes file
    → (verdict sha256 a file ≡ answered accepted (length file) → Accepted sha256 a.params a.context file)
    × (Accepted sha256 a.params a.context file → verdict sha256 a file ≡ answered accepted (length file))
at_sha256 = accepted_exactly sha256
