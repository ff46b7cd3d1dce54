-- What the tests say when none fails, and what the writer then answers and leaves. Assumes nothing.
use Prim.Native.Nat.{ℕ, ◌*◌, ◌^◌, ◌-◌, ◌≤◌, ◌<◌}
use mathlib.Core.Bool.{Bool, true, false, cond, ◌&&◌}
use mathlib.Core.List.{List, ◌++◌}
use mathlib.Core.Path.{◌≡◌, refl, sym, ap, ap₂, ◌∙◌}
use native.Mathlib.Omega.{arith}
use borrow.Author.Tests.{eqb-true, eqb-false, leb-true, eq-eqb, ne_eqb}
use lib.Dec.{eqb, leb}
use lib.ListN.{length, drop, replicate}
use Rattle.answer.specs.Table.{answered}
use Rattle.sha256.specs.Sha256.{sha256}
use Rattle.params.specs.declared.Params.{Params}
use Rattle.params.specs.Parameters.{Valid, file_length}
use Rattle.params.specs.Admission.{admission}
use Rattle.params.proofs.ParameterLaws.{offset_small, product_small}
use Rattle.params.proofs.AdmissionLaws.{admitted-valid}
use Rattle.buffer.specs.Buffer.{cleared}
use Rattle.built.specs.Built.{built_file}
use Rattle.writer.proofs.WriterLaws.{tests, in_order}
use Rattle.writer.specs.Writer.{Written, all_below, tested, refused, succeeded, written}

-- No test fails.
pub record Passed (p : Params) (f : List ℕ) (numbers bytes output : ℕ) : Type 0 where
  pub admitted : admission p ≡ 0
  pub parameters : Valid p
  pub count : length f ≡ 2 ^ (p.n - p.b)
  pub below : all_below f ≡ true
  pub numbers_fit : 2 * 2 ^ p.n ≤ numbers
  pub bytes_fit : 64 * 2 ^ p.n ≤ bytes
  pub output_fits : file_length p ≤ output

pub passed : (p : Params) (f : List ℕ) (numbers bytes output : ℕ) → tested p f numbers bytes output ≡ 0 → Passed p f numbers bytes output
unfolding tests
passed p f numbers bytes output e =
    go (eqb (admission p) 0) refl (eqb (length f) (2 ^ (p.n - p.b))) refl (all_below f) refl (leb (2 * 2 ^ p.n) numbers) refl (leb (64 * 2 ^ p.n) bytes) refl
    (leb (file_length p) output) refl (sym (in_order p f numbers bytes output) ∙ e)
  where
    go : (t₁ : Bool) → eqb (admission p) 0 ≡ t₁ → (t₂ : Bool) → eqb (length f) (2 ^ (p.n - p.b)) ≡ t₂ → (t₃ : Bool) → all_below f ≡ t₃
        → (t₄ : Bool) → leb (2 * 2 ^ p.n) numbers ≡ t₄ → (t₅ : Bool) → leb (64 * 2 ^ p.n) bytes ≡ t₅ → (t₆ : Bool) → leb (file_length p) output ≡ t₆
        → cond t₁ (cond t₂ (cond t₃ (cond (t₄ && t₅) (cond t₆ 0 32) 31) 22) 30) (admission p) ≡ 0 → Passed p f numbers bytes output
    go false e₁ t₂ e₂ t₃ e₃ t₄ e₄ t₅ e₅ t₆ e₆ e = absurd (eqb-false _ _ e₁ e)
    go true e₁ false e₂ t₃ e₃ t₄ e₄ t₅ e₅ t₆ e₆ e = absurd (omega arith)
    go true e₁ true e₂ false e₃ t₄ e₄ t₅ e₅ t₆ e₆ e = absurd (omega arith)
    go true e₁ true e₂ true e₃ false e₄ t₅ e₅ t₆ e₆ e = absurd (omega arith)
    go true e₁ true e₂ true e₃ true e₄ false e₅ t₆ e₆ e = absurd (omega arith)
    go true e₁ true e₂ true e₃ true e₄ true e₅ false e₆ e = absurd (omega arith)
    go true e₁ true e₂ true e₃ true e₄ true e₅ true e₆ e =
        record {
          admitted = eqb-true _ _ e₁;
          parameters = admitted-valid p (eqb-true _ _ e₁);
          count = eqb-true _ _ e₂;
          below = e₃;
          numbers_fit = leb-true _ _ e₄;
          bytes_fit = leb-true _ _ e₅;
          output_fits = leb-true _ _ e₆;
        }

-- A file's length is a place.
pub length-small : (p : Params) → Valid p → file_length p < 4294967296
unfolding file_length
length-small p v = omega (arith, offset_small p v, product_small p.q p p.k refl (omega arith) (omega arith) (omega arith))

module _ (p : Params) (context f numbers bytes output : List ℕ) where
  abbrev number : ℕ
  number = tested p f (length numbers) (length bytes) (length output)

  abbrev w : Written
  w = written sha256 p context f numbers bytes output

  pub succeeds : number ≡ 0 → w ≡ succeeded (file_length p) (built_file sha256 p context f) numbers bytes output
  unfolding written
  succeeds e = ap (λ t. cond t (succeeded (file_length p) (built_file sha256 p context f) numbers bytes output) (refused number numbers bytes output)) (eq-eqb _ _ e)

  pub refuses : (number ≡ 0 → ⊥) → w ≡ refused number numbers bytes output
  unfolding written
  refuses e = ap (λ t. cond t (succeeded (file_length p) (built_file sha256 p context f) numbers bytes output) (refused number numbers bytes output)) (ne_eqb _ _ e)

  -- Only a call that passes the tests answers 0.
  pub number_of : {place : ℕ} → w.answer ≡ answered 0 place → number ≡ 0
  number_of {place} e = go (eqb number 0) refl
    where
      go : (t : Bool) → eqb number 0 ≡ t → number ≡ 0
      go true h = eqb-true _ _ h
      go false h = sym (ap (λ x. x.answer.number) (refuses (eqb-false _ _ h))) ∙ ap (λ a. a.number) e

  -- After a refusal, and after success.
  pub refused-left : {r : ℕ} → r ≡ number → (r ≡ 0 → ⊥)
      → (answered r 0 ≡ w.answer) × ((output ≡ w.output) × ((numbers ≡ w.numbers) × (bytes ≡ w.bytes)))
  refused-left {r} e h =
      let no : w ≡ refused number numbers bytes output = refuses (λ z. h (e ∙ z)) in
      (ap (λ k. answered k 0) e ∙ sym (ap (λ x. x.answer) no), (sym (ap (λ x. x.output) no), (sym (ap (λ x. x.numbers) no), sym (ap (λ x. x.bytes) no))))

  pub succeeded-left : {r size : ℕ} {file n₁ b₁ : List ℕ} (n b : List ℕ) → r ≡ number → r ≡ 0 → size ≡ file_length p → file ≡ built_file sha256 p context f
      → length n ≡ length numbers → n₁ ≡ cleared n → length b ≡ length bytes → b₁ ≡ cleared b
      → (answered r size ≡ w.answer) × ((file ++ drop size output ≡ w.output) × ((n₁ ≡ w.numbers) × (b₁ ≡ w.bytes)))
  succeeded-left {r} {size} {file} {n₁} {b₁} n b e z s g ln en lb eb =
      let yes : w ≡ succeeded (file_length p) (built_file sha256 p context f) numbers bytes output = succeeds (sym e ∙ z) in (
        ap₂ (λ k l. answered k l) z s ∙ sym (ap (λ x. x.answer) yes),
        (
          ap₂ (λ x k. x ++ drop k output) g s ∙ sym (ap (λ x. x.output) yes),
          (
            en ∙ ap (λ k. replicate k 0) ln ∙ sym (ap (λ x. x.numbers) yes),
            eb ∙ ap (λ k. replicate k 0) lb ∙ sym (ap (λ x. x.bytes) yes),
          ),
        ),
      )
