-- The answers of open, piece and end together are the verdict on the bytes that were fed, in whatever pieces.
-- Assumes nothing.
use mathlib.Core.Path.{◌≡◌, sym, ap, ◌∙◌}
use mathlib.Core.List.{List, ◌++◌}
use Prim.Native.Nat.{ℕ}
use lib.ListN.{length}
use Rattle.std.proofs.lemmas.List.{nil_from_length}
use Rattle.sha256.specs.Sha256.{sha256}
use Rattle.answer.specs.declared.Answer.{Answer}
use Rattle.answer.specs.Table.{answered, open_so_far}
use Rattle.answer.specs.Refusals.{number_of}
use Rattle.answer.specs.declared.Refusal.{Refusal}
use Rattle.answer.proofs.RefusalLaws.{never_open}
use Rattle.params.specs.declared.Terms.{Terms}
use Rattle.params.specs.Admission.{admission}
use Rattle.fri.specs.Judge.{verdict}
use Rattle.reader_model.specs.declared.Reader.{Reader}
use Rattle.reader_model.specs.Model.{opened, pieced, fed, ended}
use Rattle.lent_reader.specs.Held.{Outcome, reader_of, outcome_of}
use Rattle.lent_reader.proofs.Through.{left_by, answered_by}
use Rattle.reader_model.proofs.Theorem.{fed_none, fed-append, verdict-fed, verdict-refused}

-- The verdict where the opening is refused.
pub refused-verdict : (a : Terms) (r : Refusal) → number_of r ≡ admission a.params → (bytes : List ℕ)
    → answered (number_of r) 0 ≡ verdict sha256 a bytes
unfolding opened
refused-verdict a r e bytes = ap (λ (n : ℕ). answered n 0) e ∙ verdict-refused sha256 a bytes (λ f. never_open r (e ∙ f))

-- What a caller holds after a piece, and what the end call answers it.
pub fed-piece : {s r : Reader} {x : Outcome} (bytes : List ℕ) → s ≡ r → x ≡ outcome_of (pieced sha256 s bytes) → reader_of x.held ≡ fed sha256 r bytes
unfolding pieced
fed-piece {s} bytes e f = left_by (pieced sha256 s bytes) f ∙ ap (λ (x : Reader). fed sha256 x bytes) e

pub ended-answer : {s r : Reader} {x : Outcome} → s ≡ r → x ≡ outcome_of (ended s) → x.answer ≡ (ended r).answer
ended-answer {s} e f = answered_by (ended s) f ∙ ap (λ (x : Reader). (ended x).answer) e

-- One piece more of what is left, and none.
pub fed-next : {s x : Reader} {rest : List ℕ} (r : Reader) (bytes more : List ℕ) → rest ≡ bytes ++ more → s ≡ fed sha256 r bytes → fed sha256 r rest ≡ x
    → fed sha256 s more ≡ x
fed-next r bytes more e f g =
    ap (λ (y : Reader). fed sha256 y more) f ∙ fed-append sha256 r bytes more ∙ ap (fed sha256 r) (sym e) ∙ g

pub fed-all : {x : Reader} (r : Reader) (rest : List ℕ) → length rest ≡ 0 → fed sha256 r rest ≡ x → r ≡ x
fed-all r rest e f = sym (fed_none sha256 r) ∙ ap (fed sha256 r) (sym (nil_from_length rest e)) ∙ f

pub ended-verdict : {x y : Answer} {r s : Reader} → x ≡ (ended r).answer → r ≡ s → (ended s).answer ≡ y → x ≡ y
ended-verdict e f g = e ∙ ap (λ (r : Reader). (ended r).answer) f ∙ g

-- What a caller holds after an opening that is admitted.
pub admitted-outcome : (a : Terms) {x : Outcome} → open_so_far ≡ admission a.params → x ≡ outcome_of (opened sha256 a)
    → (bytes : List ℕ) → (ended (fed sha256 (reader_of x.held) bytes)).answer ≡ verdict sha256 a bytes
admitted-outcome a v e bytes =
    ap (λ (r : Reader). (ended (fed sha256 r bytes)).answer) (left_by (opened sha256 a) e) ∙ verdict-fed sha256 a (sym v) bytes
