-- The byte that decides a refusal changes no table. Assumes nothing.
use Prim.Native.Nat.{ℕ, ◌+◌}
use mathlib.Core.Bool.{Bool, true, false, false≢true}
use mathlib.Core.List.{List}
use mathlib.Core.Path.{◌≡◌, refl, ap}
use lib.Dec.{ltb}
use Rattle.field.specs.Modular.{p as modulus}
use Rattle.message.specs.Message.{Digest}
use Rattle.reader_model.specs.declared.Stage.{Stage}
use Rattle.reader_model.specs.declared.Stage.TheVariants.{ParameterCount, Parameters, RootCount, Root, CoefficientCount, Coefficient, QueryCount, Value, Sibling, Tail, Stopped}
use Rattle.reader_model.specs.declared.Core.{Core}
use Rattle.reader_model.specs.declared.Tables.{Tables}
use Rattle.reader_model.specs.declared.Reader.{Reader}
use Rattle.reader_model.specs.State.{item_length}
use Rattle.reader_model.specs.Items.{sane, item_number, finals, after_root, after_coefficient, coefficients_after, after_item, advanced}
use Rattle.reader_model.specs.Model.{stored, step, is_stopped}

module _ (hash : List ℕ → Digest) where
  -- A root is never refused, and a coefficient that is refused is not kept.
  root_goes_on : (c : Core) → is_stopped (after_root hash c).stage ≡ true → ⊥
  unfolding after_root
  root_goes_on c e = by (ltb (c.cursor.layer + 1) c.params.k) refl e
    where
      by : (b : Bool) → ltb (c.cursor.layer + 1) c.params.k ≡ b → is_stopped (after_root hash c).stage ≡ true → ⊥
      by true t e = false≢true (rw t at e)
      by false t e = false≢true (rw t at e)

  coefficient_kept : (c : Core) (l : List ℕ) → is_stopped (after_coefficient hash c l).stage ≡ true → coefficients_after hash c l ≡ l
  unfolding after_coefficient coefficients_after
  coefficient_kept c l e = by (ltb (item_number c) modulus) refl (ltb (c.cursor.coefficient + 1) (finals c)) refl
    where
      by : (b : Bool) → ltb (item_number c) modulus ≡ b → (d : Bool) → ltb (c.cursor.coefficient + 1) (finals c) ≡ d → coefficients_after hash c l ≡ l
      by false t d u = rw t
      by true t true u = absurd (false≢true (rw (t, u) at e))
      by true t false u = absurd (false≢true (rw (t, u) at e))

  dispatch_keeps : (g : Stage) (c : Core) (t : Tables) → is_stopped (after_item hash g c t).core.stage ≡ true → (after_item hash g c t).tables ≡ t
  dispatch_keeps ParameterCount c t e = refl
  dispatch_keeps Parameters c t e = refl
  dispatch_keeps RootCount c t e = refl
  dispatch_keeps Root c t e = absurd (root_goes_on c e)
  dispatch_keeps CoefficientCount c t e = refl
  dispatch_keeps Coefficient c t e =
      ap (λ (l : List ℕ). record { roots = t.roots; challenges = t.challenges; coefficients = l }) (coefficient_kept c t.coefficients e)
  dispatch_keeps QueryCount c t e = refl
  dispatch_keeps Value c t e = refl
  dispatch_keeps Sibling c t e = refl
  dispatch_keeps Tail c t e = refl
  dispatch_keeps Stopped c t e = refl

  advanced_keeps : (r : Reader) → is_stopped (advanced hash r).core.stage ≡ true → (advanced hash r).tables ≡ r.tables
  unfolding advanced
  advanced_keeps r e = by (sane r.core) refl
    where
      by : (b : Bool) → sane r.core ≡ b → (advanced hash r).tables ≡ r.tables
      by true t = rw t (dispatch_keeps r.core.stage r.core r.tables (rw t at e))
      by false t = rw t

  pub step_keeps : (r : Reader) (x : ℕ) → is_stopped (step hash r x).core.stage ≡ true → (step hash r x).tables ≡ r.tables
  unfolding step
  step_keeps r x e =
      by (ltb r.core.fill (item_length r.core.stage)) refl (ltb (r.core.fill + 1) (item_length r.core.stage)) refl
    where
      by : (b : Bool) → ltb r.core.fill (item_length r.core.stage) ≡ b → (d : Bool) → ltb (r.core.fill + 1) (item_length r.core.stage) ≡ d
          → (step hash r x).tables ≡ r.tables
      by false t d u = rw t
      by true t true u = rw (t, u)
      by true t false u = rw (t, u) (advanced_keeps (stored r x) (rw (t, u) at e))
