-- Every state of the model stands for what is left of the judgement: within an item, at its last byte, after the file, refused and closed. And every
-- state that is reached is within the bounds that the model tests. Assumes nothing.
use Prim.Native.Nat.{ℕ, suc, ◌+◌, ◌<◌, ◌≤◌}
use mathlib.Core.Bool.{Bool, true, false, cond}
use mathlib.Core.List.{List, [], ◌∷◌, ◌++◌, foldl}
use mathlib.Core.Path.{◌≡◌, refl, ap, sym, ◌∙◌, subst, subst₂}
use native.Mathlib.Numerals.{add-one}
use native.Mathlib.Omega.{arith}
use lib.Dec.{ltb}
use lib.ListN.{length, take, set, length-set}
use lib.Seq.{take_all, take-suc-set, length-take-le}
use borrow.Author.Tests.{lt-ltb, le-ltb, le-leb, ltb-true, ltb-false, eqb-true}
use Rattle.answer.specs.declared.Answer.{Answer}
use Rattle.answer.specs.Table.{answered, open_so_far, accepted, too_few_bytes, byte_after_the_end, is_fault}
use Rattle.message.specs.Bytes.{joined}
use Rattle.message.specs.Message.{Digest}
use Rattle.message.proofs.Bytes.{Sized}
use Rattle.params.specs.declared.Params.{Params}
use Rattle.params.specs.Parameters.{Valid, header_size, final_count, file_length}
use Rattle.params.proofs.ParameterLaws.{offset_small, product_small}
use Rattle.transcript.specs.Transcript.{absorbed}
use Rattle.fri.specs.Process.{Process, bytes, many, pure, outcome, ◌>>=◌, ◌>>◌, done, fail, need}
use Rattle.fri.specs.Judge.{number, sections, piece_answer, end_answer}
use Rattle.fri.proofs.Process.{Width}
use Rattle.fri.proofs.Width.{sections_width}
use Rattle.calls.proofs.Follows.{ShutByte}
use Rattle.calls.proofs.Denotes.{Denotes}
use Rattle.calls.proofs.Within.{sections_begin}
use Rattle.reader_model.specs.declared.Stage.{Stage}
use Rattle.reader_model.specs.declared.Stage.TheVariants.{ParameterCount, Parameters, RootCount, Root, CoefficientCount, Coefficient, QueryCount, Value, Sibling, Tail, Stopped}
use Rattle.reader_model.specs.declared.Cursor.{Cursor}
use Rattle.reader_model.specs.declared.Walk.{Walk}
use Rattle.reader_model.specs.declared.Core.{Core}
use Rattle.reader_model.specs.declared.Tables.{Tables}
use Rattle.reader_model.specs.declared.Reader.{Reader}
use Rattle.reader_model.specs.State.{item_length, stopped, closed_state, place}
use Rattle.reader_model.specs.Items.{sane, refused, finals, after_count, after_query_count, after_item, advanced}
use Rattle.reader_model.specs.Model.{stored, step, fed, is_stopped, is_tail, open_answer, told, answer_of, pieced, ended, started}
use Rattle.reader_model.proofs.Filled.{challenges}
use Rattle.reader_model.proofs.Rest.{counting, with_parameters, to_section3, to_section4, to_queries, sections_are, Sound, Waiting, At, parameter_count, parameters, root_count, root, coefficient-count, coefficient, query_count, value, sibling, After, goes, stops}
use Rattle.reader_model.proofs.Rest
use Rattle.reader_model.proofs.Stages.{finals_are, finals-low, pred_of, leaves_as, after_count_lem, after_parameters_lem, after_root_lem, after_coefficient_lem}
use Rattle.reader_model.proofs.Queries.{begin_query, after_value_lem, after_sibling_lem}

-- What the model answers to a piece that leaves this state, as to the piece with no bytes; and to the end call.
abbrev pub says : (List ℕ → Digest) → Reader → Answer
says hash r = (pieced hash r []).answer

abbrev pub ends_with : Reader → Answer
ends_with r = (ended r).answer

-- A file is short, so places stay within their bounds.
file-short : (p : Params) → Valid p → file_length p < 2147483648
unfolding file_length
file-short p v = omega (arith, offset_small p v, product_small p.q p p.k refl (omega arith) (omega arith) (omega arith))

-- A state within the bounds passes the model's own test.
sane_is : (c : Core) → Sound c → c.fill ≤ 32 → c.cursor.start < 2147483648 → sane c ≡ true
unfolding sane
sane_is c s h l =
    rw (
      le-leb c.fill 32 h,
      lt-ltb c.cursor.start 2147483648 l,
      lt-ltb c.cursor.coefficient 64 s.coefficient-low,
      lt-ltb c.cursor.query 128 s.query-low,
      lt-ltb c.cursor.layer 16 s.layer-low,
      lt-ltb c.cursor.value 4 s.value_low,
      lt-ltb c.cursor.height 32 s.height-low,
    )

-- And its place is the answer's.
open_is : (number : ℕ) (c : Core) → c.fill ≤ 32 → c.cursor.start < 2147483648 → open_answer number c.cursor.start c.fill ≡ answered number (place c)
unfolding open_answer
open_is number c h l = rw (le-leb c.fill 32 h, lt-ltb c.cursor.start 2147483648 l)

-- A stage that waits for an item of this many bytes.
record Waits (g : Stage) (u : ℕ) : Type 0 where
  size : item_length g ≡ u
  within : u ≤ 32
  some : 0 < u
  not_stopped : is_stopped g ≡ false
  not_tail : is_tail g ≡ false

open_item : {g : Stage} {u : ℕ} → item_length g ≡ u → u ≤ 32 → 0 < u → is_stopped g ≡ false → is_tail g ≡ false → Waits g u
open_item e h l f i = record { size = e; within = h; some = l; not_stopped = f; not_tail = i }

module _ (hash : List ℕ → Digest) (first : Digest) where
  waits : {p : Params} {c : Cursor} {w : Walk} {s : Digest} {t : Tables} {f : List ℕ → Process} (g : Stage) (u : ℕ)
      → Waiting hash first p c w s t g u f → Waits g u
  waits ParameterCount u (parameter_count e l) = open_item refl (omega arith) (omega arith) refl refl
  waits Parameters u (parameters e l) = open_item refl (omega arith) (omega arith) refl refl
  waits RootCount u (root_count e l) = open_item refl (omega arith) (omega arith) refl refl
  waits Root u (root more e l total) = open_item refl (omega arith) (omega arith) refl refl
  waits CoefficientCount u (coefficient-count e l) = open_item refl (omega arith) (omega arith) refl refl
  waits Coefficient u (coefficient more e l total) = open_item refl (omega arith) (omega arith) refl refl
  waits QueryCount u (query_count l) = open_item refl (omega arith) (omega arith) refl refl
  waits Value u (value w more h f e total) = open_item refl (omega arith) (omega arith) refl refl
  waits Sibling u (sibling w more h) = open_item refl (omega arith) (omega arith) refl refl
  waits Tail u x = elim x [ ]
  waits Stopped u x = elim x [ ]

  -- A whole item, of every stage. Counts that are wanted are above 0, so at least one root, coefficient and query follow.
  dispatch : (c : Core) (t : Tables) (s : Sound c) (g : Stage) (u : ℕ) (f : List ℕ → Process) → At hash first c t g u f
      → After hash first (after_item hash g c t).core (after_item hash g c t).tables (place c) (f (take u c.item))
  unfolding many ◌>>=◌ ◌>>◌ bytes pure number after_count after_query_count
  dispatch c t s ParameterCount u f (parameter_count e l) =
      after_count_lem c t header_size header_size (need header_size (with_parameters hash c.params first)) refl (goes s (parameters e l) refl refl)
  dispatch c t s Parameters u f (parameters e l) = after_parameters_lem c t (goes s (root_count e l) refl refl)
  dispatch c t s RootCount u f (root_count e l) =
      let (more, k-is) = pred_of c.params.k (omega arith) in
      after_count_lem c t c.params.k c.params.k (many c.params.k (bytes 32) (to_section3 hash c.params first)) refl
      (leaves_as (goes s (root {roots = []} more e l (omega arith)) refl refl)
      (ap (λ x. many x (bytes 32) (to_section3 hash c.params first)) (sym k-is)))
  dispatch c t s Root u f (root {roots} more e l total) =
      leaves_as (after_root_lem c t s roots more e l total) (ap f (sym (take_all 32 c.item (omega arith))))
  dispatch c t s CoefficientCount u f (coefficient-count {roots} e l) =
      let (more, F-is) = pred_of (final_count c.params) (finals-low c.params) in
      after_count_lem c t (finals c) (final_count c.params) (many (final_count c.params) number (to_section4 hash c.params first roots))
      (finals_are c s)
      (leaves_as (goes s (coefficient {roots = roots} {final = []} more e l (omega arith)) refl refl)
      (ap (λ x. many x number (to_section4 hash c.params first roots)) (sym F-is)))
  dispatch c t s Coefficient u f (coefficient {roots} {final} more e l total) = after_coefficient_lem c t s roots final more e l total
  dispatch c t s QueryCount u f (query_count {roots} {final} l) =
      let (more, q-is) = pred_of c.params.q (omega arith) in
      after_count_lem c t c.params.q c.params.q (to_queries hash c.params first roots final c.params.q 0) refl
      (leaves_as (begin_query hash first c t s roots final 0 more l (omega arith))
      (ap (λ x. to_queries hash c.params first roots final x 0) (sym q-is)))
  dispatch c t s Value u f (value w more h g e total) = after_value_lem hash first c t s w more h g e total
  dispatch c t s Sibling u f (sibling w more h) =
      leaves_as (after_sibling_lem hash first c t s w more h) (ap f (sym (take_all 32 c.item (omega arith))))
  dispatch c t s Tail u f x = elim x [ ]
  dispatch c t s Stopped u f x = elim x [ ]

-- The state r after d bytes, where this is left of the judgement, and `held` are the bytes of its next item that are there: within an item, after the
-- last one, and refused. The bytes that are left to read are few, so that places stay within the model's bounds.
data Stands (hash : List ℕ → Digest) (first : Digest) (r : Reader) : Process → List ℕ → ℕ → Type 0 where
  reads : {u v d : ℕ} {f : List ℕ → Process} {held : List ℕ} → Sound r.core → At hash first r.core r.tables r.core.stage u f
      → take r.core.fill r.core.item ≡ held → r.core.fill < u → place r.core ≡ d
      → Width (need u f) v → r.core.cursor.start + v < 2147483648 → Stands hash first r (need u f) held d
  whole : {d : ℕ} → Sound r.core → r.core.stage ≡ Tail → r.core.fill ≡ 0 → r.core.cursor.start ≡ d → d < 2147483648
      → Stands hash first r done [] d
  refusing : {number d : ℕ} → is_fault number ≡ true → r.core ≡ stopped (answered number d) → Stands hash first r (fail number) [] d

-- What is left after the next item has its width.
width_after : {u v : ℕ} {f : List ℕ → Process} → Width (need u f) v → (bs : List ℕ) → length bs ≡ u → (v' : ℕ) × (v ≡ u + v') × Width (f bs) v'
width_after (Width.needs {u = v'} e g) bs h = (v', e, g bs h)

-- One byte of an item: among the others, and the last.
step-more : (hash : List ℕ → Digest) (r : Reader) (x : ℕ) → r.core.fill + 1 < item_length r.core.stage → step hash r x ≡ stored r x
unfolding step
step-more hash r x h =
    rw (lt-ltb r.core.fill (item_length r.core.stage) (omega arith), lt-ltb (r.core.fill + 1) (item_length r.core.stage) h)

step_last : (hash : List ℕ → Digest) (r : Reader) (x : ℕ) → r.core.fill + 1 ≡ item_length r.core.stage → sane (stored r x).core ≡ true
    → step hash r x ≡ after_item hash r.core.stage (stored r x).core r.tables
unfolding step advanced
step_last hash r x h e =
    rw (lt-ltb r.core.fill (item_length r.core.stage) (omega arith), le-ltb (r.core.fill + 1) (item_length r.core.stage) (omega arith), e)

-- A stopped reader tells its fault, and stays.
tells : (number d : ℕ) → is_fault number ≡ true → told (answered number d) ≡ answered number d
unfolding told
tells number d h = rw h

pub step_stays : (hash : List ℕ → Digest) (r : Reader) (x : ℕ) → is_stopped r.core.stage ≡ true → step hash r x ≡ r
unfolding step
step_stays hash r x e = rw (eqb-true (item_length r.core.stage) 0 e, le-ltb r.core.fill 0 (omega arith))

pub fold_stays : (hash : List ℕ → Digest) (r : Reader) (xs : List ℕ) → is_stopped r.core.stage ≡ true → foldl (step hash) r xs ≡ r
fold_stays hash r [] e = refl
fold_stays hash r (x ∷ xs) e = ap (λ (s : Reader). foldl (step hash) s xs) (step_stays hash r x e) ∙ fold_stays hash r xs e

-- The item with one byte more.
stored_sound : (r : Reader) (x : ℕ) → Sound r.core → Sound (stored r x).core
stored_sound r x s = record {
  valid = s.valid;
  item-size = length-set r.core.item r.core.fill x ∙ s.item-size;
  values-size = s.values-size;
  coefficient-low = s.coefficient-low;
  query-low = s.query-low;
  layer-low = s.layer-low;
  value_low = s.value_low;
  height-low = s.height-low;
}

held_more : (c : Core) (x : ℕ) (held : List ℕ) → take c.fill c.item ≡ held → c.fill < length c.item
    → take (c.fill + 1) (set c.item c.fill x) ≡ held ++ x ∷ []
held_more c x held e h = rw (add-one, take-suc-set c.item c.fill x h, e)

held_long : (c : Core) (held : List ℕ) → take c.fill c.item ≡ held → c.fill ≤ length c.item → length held ≡ c.fill
held_long c held e h = ap length (sym e) ∙ length-take-le c.fill c.item h

module _ (hash : List ℕ → Digest) (first : Digest) where
  -- After an item.
  settle : (c : Core) (t : Tables) (d : ℕ) (q : Process) (v : ℕ) → After hash first c t d q → Width q v → d + v < 2147483648
      → Stands hash first (record { core = c; tables = t }) q [] d
  settle c t d (need u f) v (goes s a e h) w few =
      reads {u = u} {v = v} {d = d} {f = f} {held = []} s a (rw e) (omega (arith, waits hash first c.stage u a)) (omega arith) w (omega arith)
  settle c t d done v (Rest.ends s e f h) w few = whole s e f h (omega arith)
  settle c t d (fail _) v (stops h e) w few = refusing h e

  -- The first state.
  starts : (p : Params) → Valid p → Stands hash first (started p first) (sections hash p first (λ _. done)) [] 0
  unfolding started absorbed joined challenges
  starts p v =
      subst (λ q. Stands hash first (started p first) q [] 0) (sym (sections_are hash p first))
      (reads {u = 2} {v = file_length p} {d = 0} {f = counting header_size (need header_size (with_parameters hash p first))} {held = []}
      (record {
        valid = v;
        item-size = refl;
        values-size = refl;
        coefficient-low = omega arith;
        query-low = omega arith;
        layer-low = omega arith;
        value_low = omega arith;
        height-low = omega arith;
      })
      (parameter_count
      (record {
        read = record {
          sized = Sized.none;
          roots_kept = record { sized = refl; starts = refl };
          challenges_kept = record { sized = refl; starts = refl };
          final_kept = record { sized = refl; starts = refl };
        };
        coefficient-next = refl;
        transcript_is = refl;
      })
      refl)
      refl (omega arith) refl (rw (sections_are hash p first) at (sections_width hash p first)) (omega (arith, file-short p v)))

  room : {r : Reader} {u d : ℕ} {f : List ℕ → Process} {held : List ℕ} → Stands hash first r (need u f) held d → length held < u
  room {r} {u} {held = held} (reads s a h l e w few) =
      let here = waits hash first r.core.stage u a in
      omega (arith, held_long r.core held h (omega (arith, s.item-size)))

  more : {r : Reader} {u d : ℕ} {f : List ℕ → Process} {held : List ℕ} → Stands hash first r (need u f) held d → (x : ℕ) → suc (length held) < u
      → Stands hash first (step hash r x) (need u f) (held ++ x ∷ []) (suc d)
  more {r} {u} {d} {f} {held} (reads {v = v} s a h l e w few) x m =
      let here = waits hash first r.core.stage u a in
      let long = held_long r.core held h (omega (arith, s.item-size)) in
      subst (λ y. Stands hash first y (need u f) (held ++ x ∷ []) (suc d)) (sym (step-more hash r x (omega arith)))
      (reads {u = u} {v = v} {d = suc d} {f = f} {held = held ++ x ∷ []} (stored_sound r x s) a
      (held_more r.core x held h (omega (arith, s.item-size))) (omega arith) (omega arith) w few)

  -- The item's last byte: the whole item is dispatched.
  last : {r : Reader} {u d : ℕ} {f : List ℕ → Process} {held : List ℕ} → Stands hash first r (need u f) held d → (x : ℕ) → suc (length held) ≡ u
      → Stands hash first (step hash r x) (f (held ++ x ∷ [])) [] (suc d)
  last {r} {u} {d} {f} {held} (reads {v = v} s a h l e w few) x m =
      let here = waits hash first r.core.stage u a in
      let long = held_long r.core held h (omega (arith, s.item-size)) in
      let full : r.core.fill + 1 ≡ u = omega arith in
      let item-is : take u (stored r x).core.item ≡ held ++ x ∷ [] = rw (← full) (held_more r.core x held h (omega (arith, s.item-size))) in
      let ok : sane (stored r x).core ≡ true = sane_is (stored r x).core (stored_sound r x s) (omega arith) (omega arith) in
      let (v', sum, rest) =
      width_after w (take u (stored r x).core.item) (length-take-le u (stored r x).core.item (omega (arith, (stored_sound r x s).item-size))) in
      let there : place (stored r x).core ≡ suc d = omega arith in
      subst (λ y. Stands hash first y (f (held ++ x ∷ [])) [] (suc d)) (sym (step_last hash r x (omega arith) ok))
      (subst₂ (λ y z. Stands hash first (after_item hash r.core.stage (stored r x).core r.tables) (f y) [] z) item-is there
      (settle _ _ (place (stored r x).core) (f (take u (stored r x).core.item)) v'
      (dispatch hash first (stored r x).core r.tables (stored_sound r x s) r.core.stage u f a) rest (omega arith)))

  -- A byte after the end.
  past : {r : Reader} {d : ℕ} → Stands hash first r done [] d → (x : ℕ) → Stands hash first (step hash r x) (fail byte_after_the_end) [] (suc d)
  unfolding refused
  past {r} {d} (whole s tail none e few) x =
      let size : item_length r.core.stage ≡ 1 = ap item_length tail in
      let ok : sane (stored r x).core ≡ true = sane_is (stored r x).core (stored_sound r x s) (omega arith) (omega arith) in
      let there : place (stored r x).core ≡ suc d = omega arith in
      refusing refl
      (ap (λ y. y.core) (step_last hash r x (omega arith) ok)
      ∙ ap (λ g. (after_item hash g (stored r x).core r.tables).core) tail
      ∙ ap (λ d. stopped (answered byte_after_the_end d)) there)

  stays : {r : Reader} {number d : ℕ} → Stands hash first r (fail number) [] d → (x : ℕ) → step hash r x ≡ r
  stays {r} (refusing h e) x = step_stays hash r x (ap (λ (c : Core). is_stopped c.stage) e)

  -- The answers to a piece and to the end call.
  said : {r : Reader} {q : Process} {d : ℕ} {held : List ℕ} → Stands hash first r q held d → says hash r ≡ piece_answer (outcome q [] d) d
  unfolding pieced fed answer_of outcome piece_answer
  said {r} (reads {u} s a h l e w few) =
      let here = waits hash first r.core.stage u a in
      rw (here.not_stopped, open_is open_so_far r.core (omega arith) (omega arith), e)
  said {r} (whole {d} s tail none e few) =
      let there : place r.core ≡ d = omega arith in
      rw (tail, open_is open_so_far r.core (omega arith) (omega arith), there)
  said (refusing {number} {d} h e) = rw e (tells number d h)

  end_said : {r : Reader} {q : Process} {d : ℕ} {held : List ℕ} → Stands hash first r q held d → ends_with r ≡ end_answer (outcome q [] d) d
  unfolding ended answer_of outcome end_answer
  end_said {r} (reads {u} {d = d} s a h l e w few) =
      let here = waits hash first r.core.stage u a in
      rw (here.not_stopped, open_is _ r.core (omega arith) (omega arith), e) (ap (λ b. answered (cond b accepted too_few_bytes) d) here.not_tail)
  end_said {r} (whole {d} s tail none e few) =
      let there : place r.core ≡ d = omega arith in
      rw (tail, open_is accepted r.core (omega arith) (omega arith), there)
  end_said (refusing {number} {d} h e) = rw e (tells number d h)

  -- A state that is reached: it stands for something, and after any bytes for something else.
  pub record Reached (r : Reader) : Type 0 where
    process : Process
    held : List ℕ
    total : ℕ
    stands : Stands hash first r process held total

  one_more : (r : Reader) (q : Process) (held : List ℕ) (d : ℕ) → Stands hash first r q held d → (x : ℕ) → Reached (step hash r x)
  one_more r (need u f) held d h x = by (ltb (suc (length held)) u) refl
    where
      by : (b : Bool) → ltb (suc (length held)) u ≡ b → Reached (step hash r x)
      by true e = record { process = need u f; held = held ++ x ∷ []; total = suc d; stands = more h x (ltb-true (suc (length held)) u e) }
      by false e =
          let full : suc (length held) ≡ u = omega (arith, ltb-false (suc (length held)) u e, room h) in
          record { process = f (held ++ x ∷ []); held = []; total = suc d; stands = last h x full }
  one_more r done (_ ∷ _) d h x = elim h [ ]
  one_more r (fail n) (_ ∷ _) d h x = elim h [ ]
  one_more r done [] d h x = record { process = fail byte_after_the_end; held = []; total = suc d; stands = past h x }
  one_more r (fail n) [] d h x = record { process = fail n; held = []; total = d; stands = rw (stays h x) h }

  pub reaches : (xs : List ℕ) {r : Reader} → Reached r → Reached (foldl (step hash) r xs)
  reaches [] h = h
  reaches (x ∷ xs) {r} h = reaches xs (one_more r h.process h.held h.total h.stands x)

  pub started_reached : (p : Params) → Valid p → Reached (started p first)
  started_reached p v = record { process = sections hash p first (λ _. done); held = []; total = 0; stands = starts p v }

  -- Such a state is within the bounds, so the model's own test of them never fails.
  sane_by : (r : Reader) (q : Process) (held : List ℕ) (d : ℕ) → Stands hash first r q held d → sane r.core ≡ true
  unfolding sane
  sane_by r (need u f) held d (reads s a h l e w few) =
      let here = waits hash first r.core.stage u a in
      sane_is r.core s (omega arith) (omega arith)
  sane_by r done held d (whole s tail none e few) = sane_is r.core s (omega arith) (omega arith)
  sane_by r (fail number) held d (refusing h e) = rw e

  pub reached_sane : {r : Reader} → Reached r → sane r.core ≡ true
  reached_sane {r} h = sane_by r h.process h.held h.total h.stands

  -- What a refusal leaves of the small part.
  refused_by : (r : Reader) (q : Process) (held : List ℕ) (d : ℕ) → Stands hash first r q held d → accepted < (says hash r).number
      → r.core ≡ stopped (says hash r)
  unfolding pieced fed answer_of outcome piece_answer
  refused_by r (need u f) held d h m = absurd (omega (arith, ap (λ a. a.number) (said h)))
  refused_by r done held d h m = absurd (omega (arith, ap (λ a. a.number) (said h)))
  refused_by r (fail number) held d (refusing h e) m = rw e (ap stopped (sym (tells number d h)))

  pub refused_core : {r : Reader} → Reached r → accepted < (says hash r).number → r.core ≡ stopped (says hash r)
  refused_core {r} h = refused_by r h.process h.held h.total h.stands

  -- The closed state.
  pub shuts : ShutByte (step hash) (says hash) ends_with closed_state
  unfolding pieced fed ended told answer_of
  shuts = record { stays = λ x. step_stays hash closed_state x refl; said = refl; ended = refl }

  -- The model's states stand for what is left of the judgement.
  pub denotes : (p : Params) → Valid p → Denotes (sections hash p first (λ _. done)) (started p first) (step hash) (says hash) ends_with closed_state
  denotes p v = record {
    Stands = Stands hash first;
    begins = sections_begin hash p first;
    opens = starts p v;
    room = λ h. room h;
    more = λ h. more h;
    last = λ h. last h;
    past = λ h. past h;
    stays = λ h. stays h;
    said = λ h. said h;
    ended = λ h. end_said h;
    closes = shuts;
  }
