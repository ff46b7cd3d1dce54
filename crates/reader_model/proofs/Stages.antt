-- A whole item of sections 1 to 3: the model's state after it stands for what is left of the judgement after it, stage by stage. Assumes nothing.
use Prim.Native.Nat.{ℕ, zero, suc, ◌+◌, ◌*◌, ◌-◌, ◌<◌}
use mathlib.Core.Bool.{Bool, true, false, cond, false≢true}
use mathlib.Core.List.{List, [], ◌∷◌, ◌++◌, append_assoc}
use mathlib.Core.Path.{◌≡◌, refl, ap, ap₂, sym, ◌∙◌, subst, fun_ext}
use native.Mathlib.Omega.{arith}
use lib.Dec.{ltb, eqb}
use lib.ListN.{length, take, length-append}
use lib.Pow.{pow_pos}
use borrow.Author.Tests.{lt-ltb, le-ltb}
use Rattle.answer.specs.Table.{not_below_modulus, count_differs, parameters_differ, is_fault}
use Rattle.field.specs.Modular.{p as modulus}
use Rattle.message.specs.Message.{Digest}
use Rattle.message.proofs.Bytes.{joined_length}
use Rattle.params.specs.declared.Params.{Params}
use Rattle.params.specs.Parameters.{header_size, final_count}
use Rattle.params.proofs.ParameterLaws.{valid_test, if_valid_lem, final-small}
use Rattle.transcript.specs.Transcript.{absorb, challenge, absorb_final, absorbed}
use Rattle.fri.specs.Process.{Process, bytes, ensure, many, pure, ◌>>=◌, ◌>>◌}
use Rattle.fri.specs.Judge.{number}
use Rattle.reader_model.specs.declared.Stage.TheVariants.{RootCount, Root, Coefficient}
use Rattle.reader_model.specs.declared.Core.{Core}
use Rattle.reader_model.specs.declared.Tables.{Tables}
use Rattle.reader_model.specs.State.{place, moved_to}
use Rattle.reader_model.specs.Items.{refused, count_of, item_number, finals, after_parameters, root_state, after_root, roots_after, challenges_after, after_coefficient, coefficients_after, after_item}
use Rattle.reader_model.proofs.Filled.{filled_set, filled_sets, filled_take, sized_snoc, joined_snoc, challenges_snoc, challenges_length, absorbed_snoc}
use Rattle.reader_model.proofs.Rest.{counting, numbered, to_section2, to_section3, to_section4, with_root, with_coefficient, with_parameters, Read, Early, at_cursor, Sound, EarlyAt, root, coefficient-count, coefficient, query_count, After, goes, stops}

-- The number of final coefficients, of valid parameters.
pub finals_are : (c : Core) → Sound c → finals c ≡ final_count c.params
finals_are c s = sym (if_valid_lem c.params (final_count c.params) (valid_test c.params s.valid))

pub finals-low : (p : Params) → 0 < final_count p
unfolding final_count
finals-low p = pow_pos (p.n - p.b - p.k)

-- A number above 0 is a successor.
pub pred_of : (x : ℕ) → 0 < x → (y : ℕ) × (x ≡ suc y)
pred_of zero h = absurd (omega arith)
pred_of (suc y) h = (y, refl)

module _ {hash : List ℕ → Digest} {first : Digest} where
  -- What is left, by another name.
  pub leaves_as : {c : Core} {t : Tables} {d : ℕ} {q q' : Process} → After hash first c t d q → q ≡ q' → After hash first c t d q'
  leaves_as {c = c} {t = t} {d = d} a e = subst (λ u. After hash first c t d u) e a

  -- A choice of the next item, where the test holds and where it fails.
  pub leaves_true : {x : Core} {t : Tables} {d : ℕ} {q : Process} (b : Bool) (y : Core) → b ≡ true → After hash first x t d q
      → After hash first (cond b x y) t d q
  leaves_true true y e a = a
  leaves_true false y e a = absurd (false≢true e)

  pub leaves_false : {y : Core} {t : Tables} {d : ℕ} {q : Process} (b : Bool) (x : Core) → b ≡ false → After hash first y t d q
      → After hash first (cond b x y) t d q
  leaves_false true x e a = absurd (false≢true (sym e))
  leaves_false false x e a = a

  -- The one step of every item: the model's test is the judgement's, so either both go on or both refuse with this number at this place.
  pub tested : {x : Core} {t : Tables} (c : Core) (b b' : Bool) (number : ℕ) (q : Unit {0} → Process) → is_fault number ≡ true → b ≡ b'
      → (b ≡ true → After hash first x t (place c) (q tt)) → After hash first (cond b x (refused c number)) t (place c) (ensure b' number q)
  unfolding ensure refused
  tested {x = x} {t = t} c true b' number q h e f = subst (λ u. After hash first x t (place c) (ensure u number q)) e (f refl)
  tested {t = t} c false b' number q h e f = subst (λ u. After hash first (refused c number) t (place c) (ensure u number q)) e (stops h refl)

module _ {hash : List ℕ → Digest} {first : Digest} (c : Core) (t : Tables) where
  -- A section's count: if it is the wanted one, the core x is next. A number: the same, if it is below the modulus. And the parameters.
  pub after_count_lem : {x : Core} (want want' : ℕ) (q : Process) → want ≡ want' → After hash first x t (place c) q
      → After hash first (cond (eqb (count_of c) want) x (refused c count_differs)) t (place c) (counting want' q (take 2 c.item))
  after_count_lem want want' q e a = tested c _ _ count_differs (λ _. q) refl (ap (eqb (count_of c)) e) (λ _. a)

  pub after_number : {x : Core} (q : ℕ → Process) → (ltb (item_number c) modulus ≡ true → After hash first x t (place c) (q (item_number c)))
      → After hash first (cond (ltb (item_number c) modulus) x (refused c not_below_modulus)) t (place c) (numbered q (take 4 c.item))
  after_number q f = tested c _ _ not_below_modulus (λ _. q (item_number c)) refl refl f

  pub after_parameters_lem : After hash first (moved_to c RootCount) t (place c) (to_section2 hash c.params first)
      → After hash first (after_parameters c) t (place c) (with_parameters hash c.params first (take header_size c.item))
  unfolding after_parameters
  after_parameters_lem a = tested c _ _ parameters_differ (λ _. to_section2 hash c.params first) refl refl (λ _. a)

module _ {hash : List ℕ → Digest} {first : Digest} (c : Core) (t : Tables) (s : Sound c) where
  -- The tables and the transcript with one root more.
  read_root : (roots : List Digest) → EarlyAt hash first c t roots [] → c.cursor.layer ≡ length roots → length roots < 16
      → Early hash c.params first c.cursor.coefficient (root_state hash c) (after_item hash Root c t).tables (roots ++ c.item ∷ []) []
  unfolding root_state roots_after challenges_after
  read_root roots e h few =
      let s₀ = first in
      let now : absorb hash c.transcript c.item ≡ absorb hash (absorbed hash s₀ roots) c.item =
      ap (λ u. absorb hash u c.item) e.transcript_is in
      record {
        read = record {
          sized = sized_snoc c.item e.read.sized s.item-size;
          roots_kept =
              rw (joined_snoc roots c.item)
              (filled_sets e.read.roots_kept (32 * c.cursor.layer) c.item
              (joined_length e.read.sized ∙ ap (λ u. 32 * u) (sym h)) (omega arith));
          challenges_kept =
              rw (challenges_snoc hash s₀ roots c.item, ← now)
              (filled_set e.read.challenges_kept c.cursor.layer (challenge hash (absorb hash c.transcript c.item))
              (challenges_length hash s₀ roots ∙ sym h) (omega arith));
          final_kept = e.read.final_kept;
        };
        coefficient-next = e.coefficient-next;
        transcript_is = now ∙ sym (absorbed_snoc hash s₀ roots c.item);
      }

  -- A root.
  pub after_root_lem : (roots : List Digest) (more : ℕ) → EarlyAt hash first c t roots [] → c.cursor.layer ≡ length roots
      → length roots + suc more ≡ c.params.k
      → After hash first (after_root hash c) (after_item hash Root c t).tables (place c) (with_root hash c.params first roots more c.item)
  unfolding after_root many ◌>>=◌ bytes pure
  after_root_lem roots zero e h total =
      leaves_false _ _ (le-ltb (c.cursor.layer + 1) c.params.k (omega arith))
      (goes (at_cursor s (omega arith) (omega arith) (omega arith) (omega arith) (omega arith))
      (coefficient-count {roots = roots ++ c.item ∷ []} (read_root roots e h (omega arith)) (rw length-append (omega arith))) refl refl)
  after_root_lem roots (suc more) e h total =
      leaves_true _ _ (lt-ltb (c.cursor.layer + 1) c.params.k (omega arith))
      (leaves_as
      (goes (at_cursor s (omega arith) (omega arith) (omega arith) (omega arith) (omega arith))
      (root {roots = roots ++ c.item ∷ []} more (read_root roots e h (omega arith)) (rw length-append (omega arith)) (rw length-append (omega arith)))
      refl refl)
      (ap (many (suc more) (bytes 32)) (fun_ext (λ rest. ap (to_section3 hash c.params first) (append_assoc roots (c.item ∷ []) rest)))))

  -- The tables with one coefficient more.
  read_coefficient : (roots : List Digest) (final : List ℕ) → EarlyAt hash first c t roots final → length final < 64
      → ltb (item_number c) modulus ≡ true → Read hash c.params first (after_item hash Coefficient c t).tables roots (final ++ item_number c ∷ [])
  unfolding coefficients_after
  read_coefficient roots final e few low = record {
    sized = e.read.sized;
    roots_kept = e.read.roots_kept;
    challenges_kept = e.read.challenges_kept;
    final_kept = rw low (filled_set e.read.final_kept c.cursor.coefficient (item_number c) e.coefficient-next (omega arith));
  }

  -- A coefficient.
  pub after_coefficient_lem : (roots : List Digest) (final : List ℕ) (more : ℕ) → EarlyAt hash first c t roots final → length roots ≡ c.params.k
      → length final + suc more ≡ final_count c.params
      → After hash first (after_coefficient hash c t.coefficients) (after_item hash Coefficient c t).tables (place c)
      (numbered (with_coefficient hash c.params first roots final more) (take 4 c.item))
  unfolding after_coefficient many number ◌>>=◌ ◌>>◌ bytes pure
  after_coefficient_lem roots final zero e full total =
      let few = final-small c.params s.valid in
      let long : length (final ++ item_number c ∷ []) ≡ finals c = rw length-append (omega (arith, finals_are c s)) in
      after_number c (after_item hash Coefficient c t).tables (with_coefficient hash c.params first roots final zero) (λ low.
      let now = read_coefficient roots final e (omega arith) low in
      leaves_false _ _ (le-ltb (c.cursor.coefficient + 1) (finals c) (omega (arith, finals_are c s, e.coefficient-next)))
      (goes (at_cursor s (omega arith) (omega arith) (omega arith) (omega arith) (omega arith))
      (query_count {roots = roots} {final = final ++ item_number c ∷ []} (record {
        read = now;
        transcript_is = ap₂ (absorb_final hash) e.transcript_is (filled_take now.final_kept (finals c) long);
        all_roots = full;
        all_final = long ∙ finals_are c s;
      }))
      refl refl))
  after_coefficient_lem roots final (suc more) e full total =
      let few = final-small c.params s.valid in
      after_number c (after_item hash Coefficient c t).tables (with_coefficient hash c.params first roots final (suc more)) (λ low.
      leaves_true _ _ (lt-ltb (c.cursor.coefficient + 1) (finals c) (omega (arith, finals_are c s, e.coefficient-next)))
      (leaves_as
      (goes (at_cursor s (omega arith) (omega arith) (omega arith) (omega arith) (omega arith))
      (coefficient {roots = roots} {final = final ++ item_number c ∷ []} more (record {
        read = read_coefficient roots final e (omega arith) low;
        coefficient-next = rw length-append (omega (arith, e.coefficient-next));
        transcript_is = e.transcript_is;
      })
      full (rw length-append (omega arith)))
      refl refl)
      (ap (many (suc more) number) (fun_ext (λ rest. ap (to_section4 hash c.params first roots) (append_assoc final (item_number c ∷ []) rest))))))
