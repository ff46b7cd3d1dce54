-- Every worked example of document 01 marked M holds of the definitions. The rows compute, but for powers at large exponents, which come from
-- repeated squaring, and for inverses and folded values, which come from their uniqueness.
-- Assumes nothing.
use Prim.Native.Nat.{ℕ, ◌-◌}
use mathlib.Core.Path.{◌≡◌, refl, sym, ap, ◌∙◌}
use mathlib.Core.List.{[], ◌∷◌}
use lib.Dec.{lit<}
use Rattle.field.specs.Modular.{mul_mod, add_mod, sub_mod, inv_mod, subgroup_generator}
use Rattle.field.proofs.Squares.{squares}
use Rattle.field.proofs.Subgroup.{subgroup_squares}
use Rattle.field.proofs.Inverse.{inverse_unique}
use Rattle.message.specs.Bytes.{num}
use Rattle.params.specs.Parameters.{valid, final_count, file_length, queries_offset, query_length}
use Rattle.params.specs.Admission.{admission}
use Rattle.transcript.specs.Transcript.{challenge, draw}
use Rattle.fold.specs.Poly.{eval, fold}
use Rattle.fold.specs.Fold.{next}
use Rattle.fold.proofs.FoldLaws.{fold_unique}
use Rattle.fri.specs.Process.{run, left, outcome, pure, bytes, ensure, ◌>>=◌, ◌>>◌}
use Rattle.fri.specs.Judge.{number, value_at, end_answer, verdict}
use Rattle.fri.specs.Accepted.{leaf_at, drawn_leaf, next_value}
use Rattle.examples.specs.Examples.{one, examples, Hold}

entry : (t x : ℕ) → squares (30 - t) 125 ≡ x → one (subgroup_generator t) ≡ one x
entry t x e = ap one (subgroup_squares t ∙ e)

half_of_one : inv_mod 2 ≡ 1610612737
unfolding mul_mod
half_of_one = sym (inverse_unique 2 1610612737 (lit< tt) (lit< tt) (lit< tt) refl)

next_7 : next 3 7 38 3221225439 ≡ 86
unfolding add_mod sub_mod mul_mod
next_7 = sym (fold_unique 3 38 3221225439 7 86 (lit< tt) (lit< tt) (lit< tt) refl)

next_3 : next 3 3 38 3221225439 ≡ 38
unfolding add_mod sub_mod mul_mod
next_3 = sym (fold_unique 3 38 3221225439 3 38 (lit< tt) (lit< tt) (lit< tt) refl)

pub examples_hold : Hold examples
unfolding examples squares eval fold add_mod mul_mod valid admission final_count file_length queries_offset query_length value_at leaf_at drawn_leaf next_value draw challenge num verdict end_answer run left outcome number pure bytes ensure ◌>>=◌ ◌>>◌
examples_hold =
    Hold.more refl
    (Hold.more refl
    (Hold.more (ap (λ v. v ∷ 86 ∷ []) next_7)
    (Hold.more (ap one next_3)
    (Hold.more (entry 30 125 refl)
    (Hold.more (entry 29 15625 refl)
    (Hold.more (entry 28 244140625 refl)
    (Hold.more (entry 1 3221225472 refl)
    (Hold.more (ap one half_of_one)
    (Hold.more refl
    (Hold.more refl
    (Hold.more refl
    (Hold.more refl
    (Hold.more refl
    (Hold.more refl
    (Hold.more refl
    (Hold.more refl
    (Hold.more refl
    (Hold.more refl
    (Hold.more refl
    (Hold.more refl
    (Hold.more refl
    (Hold.more refl
    (Hold.more refl
    (Hold.more refl
    Hold.empty))))))))))))))))))))))))
