-- The round trip holds of every call of the writer. Assumes nothing.
use Prim.Native.Nat.{ℕ}
use mathlib.Core.Bool.{Bool, true, false, ◌&&◌, false≢true}
use mathlib.Core.List.{List, [], ◌∷◌, ◌++◌}
use mathlib.Core.Path.{◌≡◌, refl, sym, ap, ◌∙◌}
use native.Mathlib.Omega.{arith}
use borrow.Author.Tests.{ltb-true, lt-ltb}
use lib.Dec.{ltb}
use lib.ListN.{length, take, drop}
use lib.Seq.{take_at}
use Rattle.sha256.specs.Sha256.{sha256}
use Rattle.sha256.proofs.HashLaws.{length-sha256, sha256-byte}
use Rattle.field.specs.Modular.{p as modulus}
use Rattle.params.specs.declared.Params.{Params}
use Rattle.params.specs.Parameters.{file_length}
use Rattle.params.specs.Admission.{terms_of}
use Rattle.params.proofs.AdmissionLaws.{admitted-valid}
use Rattle.fold.specs.Poly.{Below, empty, more}
use Rattle.built.specs.Built.{built_file}
use Rattle.writer_model.proofs.File.{built_length}
use Rattle.writer.specs.Writer.{all_below, tested}
use Rattle.writer.proofs.WriterLaws.{none_fails}
use Rattle.writer.proofs.WrittenLaws.{passed, succeeds, number_of}
use Rattle.demands.proofs.Meets.{meets}
use Rattle.round_trip.specs.RoundTrip.{Fits, RoundTrip}

-- The test of the coefficients.
below_test : {f : List ℕ} → Below f → all_below f ≡ true
unfolding all_below
below_test empty = refl
below_test (more h r) = rw (lt-ltb _ _ h) (below_test r)

test_below : (f : List ℕ) → all_below f ≡ true → Below f
unfolding all_below
test_below [] e = empty
test_below (c ∷ f) e = go (test_below f) (ltb c modulus) refl e
  where
    go : (all_below f ≡ true → Below f) → (t : Bool) → ltb c modulus ≡ t → (t && all_below f) ≡ true → Below (c ∷ f)
    go rest true h e = more (ltb-true c modulus h) (rest e)
    go rest false h e = absurd (false≢true e)

module _ (p : Params) (context f numbers bytes output : List ℕ) where
  fitting : tested p f (length numbers) (length bytes) (length output) ≡ 0 → Fits p f numbers bytes output
  fitting e =
      let ok = passed p f (length numbers) (length bytes) (length output) e in
      record {
        admitted = ok.admitted;
        count = ok.count;
        below = test_below f ok.below;
        numbers_fit = ok.numbers_fit;
        bytes_fit = ok.bytes_fit;
        output_fits = ok.output_fits;
      }

  passing : Fits p f numbers bytes output → 0 ≡ tested p f (length numbers) (length bytes) (length output)
  passing h =
      none_fails p f _ _ _ h.admitted h.count (below_test h.below) h.numbers_fit h.bytes_fit h.output_fits

  pub returns : RoundTrip p context f numbers bytes output
  returns =
      record {
        writes_exactly = (
          λ e. fitting (number_of p context f numbers bytes output e),
          λ h. ap (λ w. w.answer) (succeeds p context f numbers bytes output (sym (passing h))),
        );
        accepts_written = λ e cs once same.
            let number : tested p f (length numbers) (length bytes) (length output) ≡ 0 = number_of p context f numbers bytes output e in
            let ok = fitting number in
            let file : List ℕ = built_file sha256 p context f in
            let front : take (file_length p) (file ++ drop (file_length p) output) ≡ file =
            take_at file _ (file_length p) (built_length sha256 length-sha256 sha256-byte p context f (admitted-valid p ok.admitted) (omega (arith, ok.count))) in
            ((meets (terms_of p context)).by_value.admitted_opening ok.admitted).accepts_built f (omega (arith, ok.count)) cs once
            (same ∙ ap (λ w. take (file_length p) w.output) (succeeds p context f numbers bytes output number) ∙ front);
      }
