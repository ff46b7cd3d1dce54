-- Laws on the tests of a state, over plain variables, so that a function's answer only cites them.
-- Assumes nothing.
use Prim.Native.Nat.{ℕ, ◌+◌, ◌*◌, ◌<◌}
use native.Mathlib.Omega.{arith}
use mathlib.Core.Path.{◌≡◌, refl, sym, ap, ◌∙◌}
use mathlib.Core.List.{List}
use lib.ListN.{length}
use lib.Seq.{sets}
use Rattle.buffer.specs.Buffer.{put}
use Rattle.buffer.proofs.BufferLaws.{put-fits}
use mathlib.Core.Bool.{Bool, true, false, ◌&&◌, false≢true}
use lib.Dec.{ltb, leb}
use borrow.Author.Tests.{leb-true, ltb-true}
use Rattle.answer.specs.Table.{answered, closed}
use Rattle.sha256.specs.Sha256.{sha256}
use Rattle.params.specs.Parameters.{height}
use Rattle.reader_model.specs.declared.Stage.{Stage}
use Rattle.reader_model.specs.declared.Stage.TheVariants.{ParameterCount, Parameters, RootCount, Root, CoefficientCount, Coefficient, QueryCount, Value, Sibling, Tail, Stopped}
use Rattle.reader_model.specs.declared.Core.{Core}
use Rattle.reader_model.specs.declared.Reader.{Reader}
use Rattle.reader_model.specs.State.{stopped, with_core, with_walk, moved_to}
use Rattle.reader_model.specs.Items.{sane, at_height, climbed, after_sibling, after_item, advanced}
use Rattle.reader_model.proofs.Choice.{taken, left}
use Rattle.reader_items.specs.Private.{Sane, is_sibling, goes_on, risen}

-- A conjunction that holds.
pub and_fst : (a b : Bool) → (a && b) ≡ true → a ≡ true
and_fst true b e = refl
and_fst false b e = e

pub and_snd : (a b : Bool) → (a && b) ≡ true → b ≡ true
and_snd true b e = e
and_snd false b e = absurd (false≢true e)

-- The tests of a sane state give its bounds.
pub sane_bounds : (c : Core) → sane c ≡ true → Sane c
unfolding sane
sane_bounds c e0 =
    let e1 = and_snd (leb c.fill 32) _ e0 in
    let e2 = and_snd (ltb c.cursor.start 2147483648) _ e1 in
    let e3 = and_snd (ltb c.cursor.coefficient 64) _ e2 in
    let e4 = and_snd (ltb c.cursor.query 128) _ e3 in
    let e5 = and_snd (ltb c.cursor.layer 16) _ e4 in
    record {
      fill = leb-true _ _ (and_fst (leb c.fill 32) _ e0);
      start = ltb-true _ _ (and_fst (ltb c.cursor.start 2147483648) _ e1);
      coefficient = ltb-true _ _ (and_fst (ltb c.cursor.coefficient 64) _ e2);
      query = ltb-true _ _ (and_fst (ltb c.cursor.query 128) _ e3);
      layer = ltb-true _ _ (and_fst (ltb c.cursor.layer 16) _ e4);
      value = ltb-true _ _ (and_fst (ltb c.cursor.value 4) _ e5);
      height = ltb-true _ _ (and_snd (ltb c.cursor.value 4) _ e5);
    }

-- The state after a whole item, where it is sane and where it is not.
pub advanced_sane : {x : Reader} {c : Core} (r : Reader) → (c ≡ r.core) × (sane r.core ≡ true) → x ≡ after_item sha256 c.stage c r.tables → x ≡ advanced sha256 r
unfolding advanced
advanced_sane r is e = e ∙ (ap (λ (k : Core). after_item sha256 k.stage k r.tables) is.0 ∙ taken _ is.1)

pub advanced_not : {x : Core} (r : Reader) → sane r.core ≡ false → x ≡ stopped (answered closed 0) → with_core r x ≡ advanced sha256 r
unfolding advanced
advanced_not r bad e = ap (with_core r) e ∙ left _ bad

-- A sibling that is not the last of its path.
sibling_stage : (stage : Stage) → is_sibling stage ≡ true → stage ≡ Sibling
sibling_stage ParameterCount e = absurd (false≢true e)
sibling_stage Parameters e = absurd (false≢true e)
sibling_stage RootCount e = absurd (false≢true e)
sibling_stage Root e = absurd (false≢true e)
sibling_stage CoefficientCount e = absurd (false≢true e)
sibling_stage Coefficient e = absurd (false≢true e)
sibling_stage QueryCount e = absurd (false≢true e)
sibling_stage Value e = absurd (false≢true e)
sibling_stage Sibling e = refl
sibling_stage Tail e = absurd (false≢true e)
sibling_stage Stopped e = absurd (false≢true e)

pub goes_on_sane : (c : Core) → goes_on c ≡ true → Sane c
goes_on_sane c e = sane_bounds c (and_fst (sane c) _ e)

pub advanced_risen : {x : Core} (r : Reader) → goes_on r.core ≡ true → x ≡ risen r.core → with_core r x ≡ advanced sha256 r
unfolding after_sibling
advanced_risen r e risen-is =
    let c = r.core in
    let more = and_snd (sane c) _ e in
    let told : c.stage ≡ Sibling = sibling_stage c.stage (and_fst (is_sibling c.stage) _ more) in
    let test : ltb (c.cursor.height + 1) (height c.params c.cursor.layer) ≡ true = and_snd (is_sibling c.stage) _ more in
    advanced_sane r (refl, and_fst (sane c) _ e)
    (ap (with_core r)
    (risen-is
    ∙ (ap (λ (k : Stage). moved_to (at_height (with_walk c (climbed sha256 c)) (c.cursor.height + 1)) k) told
    ∙ taken _ test))
    ∙ ap (λ (k : Stage). after_item sha256 k c r.tables) (sym told))

-- A root fits its layer's place.
pub root_fits : (roots root : List ℕ) (layer : ℕ) → length roots ≡ 512 → length root ≡ 32 → layer < 16 → put roots (32 * layer) root ≡ sets roots (32 * layer) root
root_fits roots root layer all one low = put-fits roots (32 * layer) root (omega arith)
