-- A whole item of section 4: the model's state after it stands for what is left of the judgement after it. Assumes nothing.
use Prim.Native.Nat.{ℕ, zero, suc, ◌+◌, ◌*◌, ◌%◌, ◌/◌, ◌<◌}
use mathlib.Core.List.{List, [], ◌∷◌, ◌++◌, append_assoc}
use mathlib.Core.Path.{◌≡◌, refl, ap, ap₂, sym, ◌∙◌, subst, fun_ext}
use native.Mathlib.Numerals.{add-one}
use native.Mathlib.Omega.{arith}
use lib.ListN.{length, take, drop, get_or, length-append, length-set}
use lib.Seq.{get_or_at}
use borrow.Author.Tests.{lt-ltb, le-ltb}
use Rattle.answer.specs.Table.{not_the_folded_value, path_misses_root, misses_final_polynomial}
use Rattle.message.specs.Message.{Digest}
use Rattle.params.specs.Parameters.{index_bits, depth, values_per_leaf, height}
use Rattle.domain.specs.Domain.{point}
use Rattle.merkle.specs.Merkle.{leaf_digest, parent}
use Rattle.transcript.specs.Transcript.{absorb, challenge, draw, absorbed}
use Rattle.fold.specs.Poly.{eval}
use Rattle.fold.specs.Fold.{anything, expected, fits}
use Rattle.fri.specs.Process.{bytes, many, pure, ◌>>=◌, ◌>>◌}
use Rattle.fri.specs.Judge.{same_bytes, value_at, number, walk, queries}
use Rattle.reader_model.specs.declared.Stage.TheVariants.{Value}
use Rattle.reader_model.specs.declared.Core.{Core}
use Rattle.reader_model.specs.declared.Tables.{Tables}
use Rattle.reader_model.specs.State.{place, moved_to, with_walk}
use Rattle.reader_model.specs.Items.{item_number, finals, values_with, leaf_of, leaf_index, leaf_point, linked, rooted, finished, at_query, at_leaf, after_leaf, after_value, climbed, next_query, next_layer, after_path, after_sibling}
use Rattle.reader_model.proofs.Filled.{Filled, filled_set, filled_take, filled_at, filled_block, challenges, challenges_append, challenges_length, absorbed_snoc}
use Rattle.reader_model.proofs.Rest.{numbered, wanted, to_queries, Late, Walking, to_next, to_layers, with_node, to_siblings, with_leaf, with_value, walk_is, siblings-more, siblings_none, at_cursor, with_values, Sound, WalkingAt, value, sibling, After, goes, ends}
use Rattle.reader_model.proofs.Stages.{finals_are, pred_of, leaves_as, leaves_true, leaves_false, tested, after_number}

module _ (hash : List ℕ → Digest) (first : Digest) (c : Core) (t : Tables) (s : Sound c) where
  -- The start of a query's walk.
  pub begin_query : (roots : List Digest) (final : List ℕ) (i more : ℕ) → Late hash c.params first c.transcript t roots final
      → suc i + more ≡ c.params.q
      → After hash first (moved_to (at_query hash c i) Value) t (place c) (to_queries hash c.params first roots final (suc more) i)
  unfolding at_query queries ◌>>◌ absorbed
  begin_query [] final i more l total = absurd (omega (arith, l.all_roots))
  begin_query (root ∷ after) final i more l total =
      let w : Walking hash c.params first i 0 c.transcript t = record {
        roots = root ∷ after;
        final = final;
        late = l;
        more = more;
        queries_are = total;
        before = [];
        root = root;
        after = after;
        roots_are = refl;
        layer_is = refl;
        earlier = first;
        earlier_is = refl;
      } in
      let (rest, values-are) = pred_of (values_per_leaf c.params) (omega arith) in
      leaves_as
      (goes
      (at_cursor s (omega arith) (omega arith) (omega arith) (omega arith) (omega arith))
      (value w {values = []} rest refl (record { sized = s.values-size; starts = refl }) refl (omega arith)) refl refl)
      (sym (walk_is hash c.params first w (draw hash c.transcript (index_bits c.params) i) anything rest values-are)
      ∙ ap (λ u. walk hash c.params final 0 (draw hash u (index_bits c.params) i) anything w.earlier (root ∷ after)
      (λ _. to_next hash c.params first w)) l.transcript_is)

  -- The end of a query.
  next-query : (roots : List Digest) (final : List ℕ) (more : ℕ) → Late hash c.params first c.transcript t roots final
      → suc c.cursor.query + more ≡ c.params.q
      → After hash first (next_query hash c) t (place c) (to_queries hash c.params first roots final more (suc c.cursor.query))
  unfolding next_query queries pure
  next-query roots final zero l total = leaves_false _ _ (le-ltb (c.cursor.query + 1) c.params.q (omega arith)) (ends s refl refl refl)
  next-query roots final (suc more) l total =
      leaves_true _ _ (lt-ltb (c.cursor.query + 1) c.params.q (omega arith))
      (subst (λ i. After hash first (moved_to (at_query hash c i) Value) t (place c)
      (to_queries hash c.params first roots final (suc more) (suc c.cursor.query))) (sym (add-one c.cursor.query))
      (begin_query roots final (suc c.cursor.query) more l (omega arith)))

  module _ (w : WalkingAt hash first c t) where
    -- The layers before, this one, and those after it are all layers.
    layers_are : c.cursor.layer + suc (length w.after) ≡ c.params.k
    layers_are =
        let split : length w.before + suc (length w.after) ≡ c.params.k =
        sym (length-append w.before (w.root ∷ w.after)) ∙ ap length (sym w.roots_are) ∙ w.late.all_roots in
        omega (arith, w.layer_is)

    -- The layer's challenge, its root and the final polynomial are those in the tables.
    challenge_is : get_or t.challenges c.cursor.layer 0 ≡ challenge hash (absorb hash w.earlier w.root)
    challenge_is =
        let s₀ = first in
        filled_at (challenges hash s₀ w.before) _ _
        (rw (w.roots_are, challenges_append hash s₀ w.before w.root w.after) at w.late.read.challenges_kept)
        c.cursor.layer (challenges_length hash s₀ w.before ∙ w.layer_is)
        ∙ ap (λ u. challenge hash (absorb hash u w.root)) (sym w.earlier_is)

    root_is : take 32 (drop (32 * c.cursor.layer) t.roots) ≡ w.root
    root_is =
        let inside : c.cursor.layer < length w.roots = omega (arith, layers_are, w.late.all_roots) in
        filled_block w.late.read.roots_kept w.late.read.sized c.cursor.layer inside
        ∙ ap (λ u. get_or u c.cursor.layer []) w.roots_are
        ∙ get_or_at w.before w.root w.after [] c.cursor.layer w.layer_is

    finished_is : suc c.cursor.layer ≡ c.params.k
        → finished c t.coefficients ≡ fits (wanted c.walk) (eval w.final (point c.params.n (depth c.params (suc c.cursor.layer)) c.walk.index))
    unfolding finished
    finished_is e =
        ap₂ (λ u j. fits (wanted c.walk) (eval u (point c.params.n (depth c.params j) c.walk.index)))
        (filled_take w.late.read.final_kept (finals c) (w.late.all_final ∙ sym (finals_are c s))) (sym e)

    -- A value after these, with as many more after it.
    pub after_value_lem : {values : List ℕ} (more : ℕ) → c.cursor.height ≡ 0 → Filled 4 values c.walk.values → length values ≡ c.cursor.value
        → length values + suc more ≡ values_per_leaf c.params
        → After hash first (after_value hash c t.challenges) t (place c)
        (numbered (with_value hash c.params first w c.walk.index (wanted c.walk) values more) (take 4 c.item))
    unfolding after_value after_leaf linked at_leaf many number pure ◌>>=◌ ◌>>◌ bytes
    after_value_lem {values} zero h f e total =
        let (left, height-is) = pred_of (height c.params c.cursor.layer) (omega (arith, layers_are)) in
        let all : leaf_of c (values_with c) ≡ values ++ item_number c ∷ [] =
        filled_take (filled_set f c.cursor.value (item_number c) e (omega arith)) (values_per_leaf c.params) (rw length-append (omega arith)) in
        let β = get_or t.challenges c.cursor.layer 0 in
        let vs = leaf_of c (values_with c) in
        after_number c t (with_value hash c.params first w c.walk.index (wanted c.walk) values zero) (λ _.
        leaves_false _ _ (le-ltb (c.cursor.value + 1) (values_per_leaf c.params) (omega arith))
        (tested c _ _ not_the_folded_value _ refl
        (ap (λ u. fits (wanted c.walk) (value_at c.params c.cursor.layer c.walk.index u)) all) (λ _.
        leaves_as (goes (with_values s (length-set c.walk.values c.cursor.value (item_number c) ∙ s.values-size)) (sibling w left (omega arith)) refl refl)
        (sym (siblings-more hash c.params first w (leaf_index c) (expected (leaf_point c) β vs) left (leaf_digest hash c.cursor.layer vs) (leaf_index c))
        ∙ ap₂ (λ u d. to_siblings hash c.params first w (leaf_index c) (expected (leaf_point c) u vs) d (leaf_digest hash c.cursor.layer vs) (leaf_index c))
        challenge_is (sym height-is)
        ∙ ap (λ u. to_siblings hash c.params first w (leaf_index c)
        (expected (leaf_point c) (challenge hash (absorb hash w.earlier w.root)) u) (height c.params c.cursor.layer) (leaf_digest hash c.cursor.layer u) (leaf_index c))
        all))))
    after_value_lem {values} (suc more) h f e total =
        after_number c t (with_value hash c.params first w c.walk.index (wanted c.walk) values (suc more)) (λ _.
        leaves_true _ _ (lt-ltb (c.cursor.value + 1) (values_per_leaf c.params) (omega arith))
        (leaves_as
        (goes
        (at_cursor (with_values s (length-set c.walk.values c.cursor.value (item_number c) ∙ s.values-size)) (omega arith) (omega arith) (omega arith)
        (omega arith) (omega arith))
        (value w {values = values ++ item_number c ∷ []} more h (filled_set f c.cursor.value (item_number c) e (omega arith)) (rw length-append (omega arith))
        (rw length-append (omega arith)))
        refl refl)
        (ap (many (suc more) number) (fun_ext (λ rest.
        ap (with_leaf hash c.params first w c.walk.index (wanted c.walk)) (append_assoc values (item_number c ∷ []) rest))))))

    -- The end of a layer.
    next-layer : After hash first (next_layer hash c t.coefficients) t (place c)
        (to_layers hash c.params first w c.walk.index (wanted c.walk))
    unfolding next_layer walk
    next-layer = go w.after refl
      where
        go : (after : List Digest) → w.after ≡ after
            → After hash first (next_layer hash c t.coefficients) t (place c)
            (walk hash c.params w.final (suc c.cursor.layer) c.walk.index (wanted c.walk) (absorb hash w.earlier w.root) after
            (λ _. to_next hash c.params first w))
        go [] e =
            let last : suc c.cursor.layer ≡ c.params.k = omega (arith, layers_are, ap length e) in
            leaves_false _ _ (le-ltb (c.cursor.layer + 1) c.params.k (omega arith))
            (tested c _ _ misses_final_polynomial _ refl (finished_is last) (λ _. next-query w.roots w.final w.more w.late w.queries_are))
        go (root ∷ after) e =
            let inside : c.cursor.layer + suc (suc (length after)) ≡ c.params.k = omega (arith, layers_are, ap length e) in
            let w' : Walking hash c.params first c.cursor.query (c.cursor.layer + 1) c.transcript t = record {
              roots = w.roots;
              final = w.final;
              late = w.late;
              more = w.more;
              queries_are = w.queries_are;
              before = w.before ++ w.root ∷ [];
              root = root;
              after = after;
              roots_are = w.roots_are ∙ ap (λ u. w.before ++ w.root ∷ u) e ∙ sym (append_assoc w.before (w.root ∷ []) (root ∷ after));
              layer_is = rw length-append (omega (arith, w.layer_is));
              earlier = absorb hash w.earlier w.root;
              earlier_is =
                  ap (λ u. absorb hash u w.root) w.earlier_is
                  ∙ sym (absorbed_snoc hash first w.before w.root);
            } in
            let (rest, values-are) = pred_of (values_per_leaf c.params) (omega arith) in
            leaves_true _ _ (lt-ltb (c.cursor.layer + 1) c.params.k (omega arith))
            (leaves_as
            (goes
            (at_cursor s (omega arith) (omega arith) (omega arith) (omega arith) (omega arith))
            (value w' {values = []} rest refl (record { sized = s.values-size; starts = refl }) refl (omega arith)) refl refl)
            (sym (walk_is hash c.params first w' c.walk.index (wanted c.walk) rest values-are)
            ∙ ap (λ j. walk hash c.params w.final j c.walk.index (wanted c.walk) w'.earlier (root ∷ after)
            (λ _. to_next hash c.params first w)) (add-one c.cursor.layer)))

    -- The end of a path.
    pub after_path_lem : After hash first (after_path hash c t.roots t.coefficients) t (place c)
        (with_node hash c.params first w c.walk.index (wanted c.walk) c.walk.node)
    unfolding after_path rooted
    after_path_lem = tested c _ _ path_misses_root _ refl (ap (same_bytes c.walk.node) root_is) (λ _. next-layer)

-- A sibling, with as many more after it.
module _ (hash : List ℕ → Digest) (first : Digest) (c : Core) (t : Tables) (s : Sound c) (w : WalkingAt hash first c t) where
  pub after_sibling_lem : (more : ℕ) → c.cursor.height + suc more ≡ height c.params c.cursor.layer
      → After hash first (after_sibling hash c t.roots t.coefficients) t (place c)
      (to_siblings hash c.params first w c.walk.index (wanted c.walk) more (parent hash (c.walk.position % 2) c.walk.node c.item)
      (c.walk.position / 2))
  unfolding after_sibling climbed
  after_sibling_lem zero h =
      leaves_false _ _ (le-ltb (c.cursor.height + 1) (height c.params c.cursor.layer) (omega arith))
      (leaves_as (after_path_lem hash first (with_walk c (climbed hash c)) t s w)
      (sym (siblings_none hash c.params first w c.walk.index (wanted c.walk) (climbed hash c).node (c.walk.position / 2))))
  after_sibling_lem (suc more) h =
      leaves_true _ _ (lt-ltb (c.cursor.height + 1) (height c.params c.cursor.layer) (omega arith))
      (leaves_as
      (goes
      (at_cursor s (omega arith) (omega arith) (omega arith) (omega arith) (omega arith))
      (sibling w more (omega arith)) refl refl)
      (sym (siblings-more hash c.params first w c.walk.index (wanted c.walk) more (climbed hash c).node (c.walk.position / 2))))
