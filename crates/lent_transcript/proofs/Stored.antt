-- A digest, the final coefficients and a transcript in a walk by hand: the machine value of each, and what a walk needs of it.
-- Assumes nothing.
use mathlib.Core.Path.{◌≡◌, refl, sym, ap, subst}
use Prim.Native.Nat.{ℕ}
use mathlib.Core.List.{List, [], ◌∷◌}
use lib.Dec.{T as So}
use lib.ListN.{take}
use seplogic.Ra.Ura.{Ura}
use base.Fraction.{full_share}
use mir.Syntax.{w8, w32, ty_unit}
use mir.Val.{Val, vunit, has_ty, WT}
use base.Logic.{SProp, ent, sep, ex, emp, guard}
use base.Fml.{ftrue, fat, fsep}
use types.Logic.{Logic, sem}
use contract.Monad.{fact}
use types.Kit.{‵, raw, ◌⊛◌, some, later, ◌$◌, ◌∵◌, !, qed, move, drop, use1, split, pick, check, rewrite, fsplit, fjoin, fpick, fpack, await, updating, now as at_once, done}
use denote.RattleType.{RattleType}
use denote.Laws.{Is, Tells, Makes, Lawful, shows}
use denote.Memory.{part_of, part_at, cell_at}
use denote.Plain.{uint_vals, uint_Tells, uint_Makes, uint_Lawful}
use denote.Builtin.{u8, u32}
use denote.Array.{Array, array_vals, Array-Tells, Array-Makes, Array-Lawful}
use denote.Steps.{only, owned, peeks, heard}
use denote.Struct.Laws as LL
use Rattle.sha256.specs.Sha256.{sha256}
use Rattle.transcript.specs.Transcript.{absorb, absorb_final}
use Rattle.transcript.specs.declared.Transcript.{Transcript}
use Rattle.transcript.specs.contracts.Transcript as T
use Rattle.transcript.proofs.Transcript.TheLaws as T'

abbrev pub Digest : RattleType
Digest = Array u8 32

abbrev pub digest_vals : List ℕ → List Val
digest_vals = array_vals (uint_vals w8)

abbrev pub digest_val : List ℕ → Val
digest_val xs = only (digest_vals xs)

pub digest_tells : Tells Digest (Is Digest) digest_vals
digest_tells = Array-Tells u8 (uint_vals w8) (uint_Tells w8) 32

-- the final coefficients: 64 numbers
abbrev pub Numbers : RattleType
Numbers = Array u32 64

abbrev pub numbers_vals : List ℕ → List Val
numbers_vals = array_vals (uint_vals w32)

abbrev pub numbers_val : List ℕ → Val
numbers_val xs = only (numbers_vals xs)

pub numbers_tells : Tells Numbers (Is Numbers) numbers_vals
numbers_tells = Array-Tells u32 (uint_vals w32) (uint_Tells w32) 64

abbrev pub vals : Transcript → List Val
vals = LL.vals T.the_type T'.the_laws

abbrev pub val : Transcript → Val
val = LL.val T.the_type T'.the_laws

pub tells : Tells T.the_row (Is T.the_row) vals
tells = LL.tells T.the_type T'.the_laws

abbrev pub with_state : List ℕ → Transcript
with_state s = record { state = s }

-- what a root leaves of a transcript
abbrev pub rooted : Transcript → List ℕ → Transcript
rooted t root = with_state (absorb sha256 t.state root)

-- and what the first so many of the final coefficients leave
abbrev pub finished : Transcript → List ℕ → ℕ → Transcript
finished t cs n = with_state (absorb_final sha256 t.state (take n cs))

-- what a call returns that returns nothing
pub unit_typed : (v : Val) → v ≡ vunit → So (has_ty ty_unit v) × WT v
unit_typed v e = subst (λ (y : Val). So (has_ty ty_unit y) × WT y) (sym e) (tt, tt)

module _ {M : Type 1} {𝓤 : Ura M} (𝓛 : Logic 𝓤) where
  open 𝓛 use {H}

  pub digest_lawful : Lawful 𝓛 Digest
  digest_lawful = Array-Lawful 𝓛 u8 (uint_Lawful 𝓛 w8) 32

  pub digest_makes : Makes 𝓛 Digest (Is Digest)
  digest_makes = Array-Makes 𝓛 u8 (uint_Makes 𝓛 w8) 32

  pub numbers_lawful : Lawful 𝓛 Numbers
  numbers_lawful = Array-Lawful 𝓛 u32 (uint_Lawful 𝓛 w32) 64

  pub numbers_makes : Makes 𝓛 Numbers (Is Numbers)
  numbers_makes = Array-Makes 𝓛 u32 (uint_Makes 𝓛 w32) 64

  pub lawful : Lawful 𝓛 T.the_row
  lawful = LL.lawful T.the_type T'.the_laws 𝓛

  pub makes : Makes 𝓛 T.the_row (Is T.the_row)
  makes = LL.makes T.the_type T'.the_plain 𝓛

  module _ (b o : ℕ) where
    -- a local that holds a transcript can be lent
    pub goes_in : (t : Transcript) → Is T.the_row t (vals t) → ent 𝓤 (H.at full_share T'.mir b o (val t)) (sem 𝓛 (part_at T.the_row full_share t b o))
    unfolding part_of
    goes_in t is =
        qed 𝓛 (‵ (fat full_share T'.mir b o (val t)) ∷ []) ∵ use1 𝓛 (‵ (cell_at full_share (T.the_row).mir (vals t) b o)) (𝓛.laws.at_raw full_share T'.mir b o (val t)) $
        owned ! T.the_row (Is T.the_row) makes t _ is $ move ! (1 ∷ 0 ∷ []) $ fjoin ! $ fpack ! (List Val) (λ vs. fsep (cell_at full_share (T.the_row).mir vs b o) ((T.the_row).own_val t vs)) (vals t) $ done !

    -- and is read again once the loan is over
    pub comes_out : (t : Transcript) → ent 𝓤 (sem 𝓛 (part_at T.the_row full_share t b o)) (guard 𝓤 (Is T.the_row t (vals t)) (H.at full_share T'.mir b o (val t)))
    unfolding part_of
    comes_out t =
        qed 𝓛 (‵ (part_at T.the_row full_share t b o) ∷ []) ∵ fpick ! (λ vs. fsplit ! $ move ! (1 ∷ []) $ peeks ! T.the_row (Is T.the_row) (shows 𝓛 T.the_row) t vs (λ is. drop ! $
        rewrite ! 0 (λ (us : List Val). ‵ (cell_at full_share (T.the_row).mir us b o)) (tells t vs is) refl $
        use1 𝓛 (‵ (fat full_share T'.mir b o (val t))) (𝓛.laws.raw_at full_share T'.mir b o (val t)) $ check ! (subst (Is T.the_row t) (tells t vs is) is) $ done !))

  -- what a call gives whose contract says the state that is left: a transcript with that state
  pub leaves : (said : Transcript → SProp 𝓤) (s : List ℕ) → ((r : Transcript) → ent 𝓤 (said r) (fact 𝓤 (r.state ≡ s))) → (v : Val)
      → ent 𝓤 (H.⇛ (ex 𝓤 (λ (r : Transcript). sep 𝓤 (sep 𝓤 (emp 𝓤) (sem 𝓛 ((T.the_row).own_val r (v ∷ [])))) (said r)))) (H.⇛ (sem 𝓛 ((T.the_row).own_val (with_state s) (v ∷ []))))
  leaves said s is v =
      qed 𝓛 (later (some (λ (r : Transcript). (‵ ftrue ⊛ ‵ ((T.the_row).own_val r (v ∷ []))) ⊛ raw (said r))) ∷ []) ∵ updating ! $ await ! tt $ pick ! (λ r. split ! $ move ! (1 ∷ []) $
      use1 𝓛 (raw (fact 𝓤 (r.state ≡ s))) (is r) $ heard ! (r.state ≡ s) (λ e. split ! $ drop ! $ rewrite ! 0 (λ (z : Transcript). ‵ ((T.the_row).own_val z (v ∷ []))) (ap with_state e) refl $ at_once ! $ done !))
