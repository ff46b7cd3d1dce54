-- Laws of the look-up: what it means that an opening is found, that it lies within the file, and that the span cuts out the part. Assumes nothing.
use Prim.Native.Nat.{ℕ, zero, suc, ◌+◌, ◌-◌, ◌*◌, ◌≤◌, ◌<◌}
use mathlib.Core.Bool.{Bool, true, false, ◌&&◌, cond}
use mathlib.Core.List.{List, []}
use mathlib.Core.Path.{◌≡◌, refl, ap, ◌∙◌}
use native.Mathlib.Nat.{add_comm, add-sub_cancel_left, mul-le-mul_right, suc-mul}
use native.Mathlib.Omega.{arith}
use borrow.Author.Tests.{ltb-true, eqb-true, lt-ltb, eq-eqb, ne_eqb}
use lib.Dec.{eqb, ltb}
use lib.ListN.{length, take, drop}
use Rattle.answer.specs.Table.{answered, open_so_far, no_such_opening}
use Rattle.answer.specs.Refusals.{number_of}
use Rattle.answer.specs.declared.Refusal.{Refusal}
use Rattle.answer.proofs.RefusalLaws.{never_open}
use Rattle.message.specs.Bytes.{part}
use Rattle.params.specs.declared.Params.{Params}
use Rattle.params.specs.Admission.{admission, admits}
use Rattle.params.specs.Parameters.{Valid, opening_length, query_length, opening_offset, file_length, if_valid}
use Rattle.params.proofs.ParameterLaws.{from_valid}
use Rattle.params.proofs.AdmissionLaws.{admitted, admitted-valid}
use Rattle.look_up.specs.declared.Span.{Span}
use Rattle.look_up.specs.LookUp.{present, found, look_up_number, look_up_answer, look_up_part, span_of, look_up_span, look_up_place}

both : (a b : Bool) → (a && b) ≡ true → (a ≡ true) × (b ≡ true)
both true b e = (refl, e)
both false b e = (cc, cc)

-- What it means that the opening of query i in layer j is found in a file of a size.
pub record HasOpening (p : Params) (size i j : ℕ) : Type 0 where
  pub is_valid : Valid p
  pub whole : size ≡ file_length p
  pub query : i < p.q
  pub layer : j < p.k

pub found_facts : (p : Params) (size i j : ℕ) → found p size i j ≡ true → HasOpening p size i j
unfolding present
found_facts p size i j e =
    let e₁ = both (admits p) _ e in
    let e₂ = both (eqb size (file_length p)) _ e₁.1 in
    let e₃ = both (ltb i p.q) _ e₂.1 in
    record {
      is_valid = admitted-valid p (eqb-true _ _ e₁.0);
      whole = eqb-true _ _ e₂.0;
      query = ltb-true _ _ e₃.0;
      layer = ltb-true _ _ e₃.1;
    }

pub present_test : (p : Params) (size i j : ℕ) → size ≡ file_length p → i < p.q → j < p.k → present p size i j ≡ true
unfolding present
present_test p size i j e h l = rw (eq-eqb _ _ e, lt-ltb _ _ h, lt-ltb _ _ l)

-- Of the layers from one on, the opening in the j-th, which is layer l, ends within the first k of them.
pub layer_within : (p : Params) (from j l k : ℕ) → l ≡ from + j → j < k → query_length p from j + opening_length p l ≤ query_length p from k
unfolding query_length
layer_within p from j l zero e h = absurd (omega arith)
layer_within p from zero l (suc k) e h =
    let same : l ≡ from = omega arith in
    rw same (omega arith)
layer_within p from (suc j) l (suc k) e h = omega (arith, layer_within p (suc from) j l k (omega arith) (omega arith))

-- An opening that is there ends within the file.
pub opening_within : (p : Params) (i j : ℕ) → i < p.q → j < p.k → opening_offset p i j + opening_length p j ≤ file_length p
unfolding opening_offset file_length
opening_within p i j h l =
    let more : suc i * query_length p 0 p.k ≡ i * query_length p 0 p.k + query_length p 0 p.k = suc-mul i (query_length p 0 p.k) in
    let less : suc i * query_length p 0 p.k ≤ p.q * query_length p 0 p.k = mul-le-mul_right (query_length p 0 p.k) (omega arith) in
    omega (arith, more, less, layer_within p 0 j j p.k (omega arith) l)

-- The span of an opening that is there, and of one that is not; and where the parameters are refused.
pub span_found : {s l : ℕ} (p : Params) (size i j : ℕ) → Valid p → size ≡ file_length p → i < p.q → j < p.k → s ≡ if_valid p (opening_offset p i j)
    → l ≡ opening_length p j → span_of open_so_far s l ≡ look_up_span p size i j
unfolding look_up_span look_up_number
span_found p size i j v e h k a b = rw (admitted p v, present_test p size i j e h k, from_valid p _ v a, b)

pub span_absent : (p : Params) (size i j : ℕ) → Valid p → ¬ HasOpening p size i j → span_of no_such_opening 0 0 ≡ look_up_span p size i j
unfolding look_up_span look_up_number
span_absent p size i j v n = rw (admitted p v, none (present p size i j) refl)
  where
    none : (b : Bool) → present p size i j ≡ b → b ≡ false
    none true e = absurd (n (found_facts p size i j (rw (admitted p v) e)))
    none false e = refl

pub span_refused : (p : Params) (size i j : ℕ) (r : Refusal) → number_of r ≡ admission p → span_of (number_of r) 0 0 ≡ look_up_span p size i j
unfolding look_up_span look_up_number
span_refused p size i j r e = rw (e, ne_eqb (admission p) open_so_far (λ f. never_open r (e ∙ f)))

-- What a caller takes by the span lies within the file, and is the part.
within_by : (t : Bool) (s l size : ℕ) → (t ≡ true → s + l ≤ size) → cond t s 0 + cond t l 0 ≤ size
within_by true s l size h = h refl
within_by false s l size h = omega arith

pub span_within : (p : Params) (size i j : ℕ) → (look_up_span p size i j).start + (look_up_span p size i j).length ≤ size
unfolding look_up_span
span_within p size i j =
    within_by (found p size i j) (opening_offset p i j) (opening_length p j) size
    (λ e. let f = found_facts p size i j e in rw f.whole (opening_within p i j f.query f.layer))

part_by : (t : Bool) (s l : ℕ) (file : List ℕ) → part (cond t s 0) (cond t l 0) file ≡ cond t (part s l file) []
unfolding part
part_by true s l file = refl
part_by false s l file = refl

pub span_part : (p : Params) (file : List ℕ) (i j : ℕ)
    → part (look_up_span p (length file) i j).start (look_up_span p (length file) i j).length file ≡ look_up_part p file i j
unfolding look_up_span look_up_part
span_part p file i j = part_by (found p (length file) i j) (opening_offset p i j) (opening_length p j) file

-- The span's laws, of the numbers that the code has.
pub cut_answer : {s : Span} (p : Params) (file : List ℕ) (i j : ℕ) → s ≡ look_up_span p (length file) i j
    → answered s.number s.place ≡ look_up_answer p file i j
unfolding look_up_span look_up_answer
cut_answer p file i j e = ap (λ (u : Span). answered u.number u.place) e

pub cut_within : {s : Span} (p : Params) (size i j : ℕ) → s ≡ look_up_span p size i j → s.start + s.length ≤ size
cut_within p size i j e = rw e (span_within p size i j)

pub cut_part : {s : Span} (p : Params) (file : List ℕ) (i j : ℕ) → s ≡ look_up_span p (length file) i j
    → take (s.start + s.length - s.start) (drop s.start file) ≡ look_up_part p file i j
unfolding part
cut_part {s = s} p file i j e = rw (add-sub_cancel_left s.start s.length, e) (span_part p file i j)

pub cut_place : {s : Span} (p : Params) (place : ℕ × ℕ) (file : List ℕ) (i j : ℕ) → s ≡ look_up_span p (length file) i j
    → (place.0, s.start + place.1) ≡ look_up_place p place file i j
unfolding look_up_place
cut_place {s = s} p place file i j e = ap (λ u. (place.0, u)) (add_comm s.start place.1 ∙ ap (λ u. place.1 + u.start) e)
