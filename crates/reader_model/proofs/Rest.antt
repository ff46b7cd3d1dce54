-- What is left of the judgement at each stage, by name, and what a state must hold for it. Assumes nothing.
use Prim.Native.Nat.{ℕ, zero, suc, ◌+◌, ◌%◌, ◌/◌, ◌<◌}
use mathlib.Core.Bool.{true}
use mathlib.Core.List.{List, [], ◌∷◌, ◌++◌}
use mathlib.Core.Path.{◌≡◌, refl, ap}
use lib.Dec.{ltb, eqb}
use lib.ListN.{length}
use Rattle.answer.specs.Table.{answered, count_differs, parameters_differ, not_below_modulus, not_the_folded_value, path_misses_root, is_fault}
use Rattle.field.specs.Modular.{p as modulus}
use Rattle.message.specs.Bytes.{num, joined}
use Rattle.message.specs.Message.{Digest}
use Rattle.message.proofs.Bytes.{Sized}
use Rattle.params.specs.declared.Params.{Params}
use Rattle.params.specs.Parameters.{Valid, header_size, header, final_count, depth, values_per_leaf, height, leaf_count}
use Rattle.domain.specs.Domain.{point}
use Rattle.merkle.specs.Merkle.{climb, leaf_digest, parent}
use Rattle.transcript.specs.Transcript.{absorb, challenge, absorb_final, absorbed}
use Rattle.fold.specs.Fold.{Expected, expected, fits}
use Rattle.fri.specs.Process.{Process, bytes, ensure, many, pure, ◌>>=◌, ◌>>◌, done, fail, need}
use Rattle.fri.specs.Judge.{same_bytes, value_at, count, number, walk, queries, sections}
use Rattle.reader_model.specs.declared.Stage.{Stage}
use Rattle.reader_model.specs.declared.Stage.TheVariants.{ParameterCount, Parameters, RootCount, Root, CoefficientCount, Coefficient, QueryCount, Value, Sibling, Tail}
use Rattle.reader_model.specs.declared.Cursor.{Cursor}
use Rattle.reader_model.specs.declared.Walk.{Walk}
use Rattle.reader_model.specs.declared.Core.{Core}
use Rattle.reader_model.specs.declared.Tables.{Tables}
use Rattle.reader_model.specs.State.{stopped}
use Rattle.reader_model.proofs.Filled.{Filled, challenges}

-- With the bytes of a section's count: the rest, if they are that count. With the bytes of a number: the rest of it, if it is below the modulus.
abbrev pub counting : ℕ → Process → List ℕ → Process
counting c rest two = ensure (eqb (num two) c) count_differs (λ _. rest)

abbrev pub numbered : (ℕ → Process) → List ℕ → Process
numbered rest four = ensure (ltb (num four) modulus) not_below_modulus (λ _. rest (num four))

-- What the walk wants of the next value.
abbrev pub wanted : Walk → Expected
wanted w = record { scale = w.scale; folded = w.folded }

module _ (hash : List ℕ → Digest) (p : Params) (first : Digest) where
  -- The transcript that draws the queries, where `first` is the one before the roots.
  abbrev pub drawing : List Digest → List ℕ → Digest
  drawing roots final = absorb_final hash (absorbed hash first roots) final

  -- What is left before count queries from query i on; before the sections 4, 3 and 2; and with the bytes of the parameters.
  abbrev pub to_queries : List Digest → List ℕ → ℕ → ℕ → Process
  to_queries roots final count i = queries hash p count i final (drawing roots final) first roots (λ _. done)

  abbrev pub to_section4 : List Digest → List ℕ → Process
  to_section4 roots final = need 2 (counting p.q (to_queries roots final p.q 0))

  abbrev pub to_section3 : List Digest → Process
  to_section3 roots = need 2 (counting (final_count p) (many (final_count p) number (λ final. to_section4 roots final)))

  abbrev pub to_section2 : Process
  to_section2 = need 2 (counting p.k (many p.k (bytes 32) (λ roots. to_section3 roots)))

  abbrev pub with_parameters : List ℕ → Process
  with_parameters four = ensure (same_bytes four (header p)) parameters_differ (λ _. to_section2)

  -- With a root after these roots, and with a coefficient after these: so many more, then the next section.
  abbrev pub with_root : List Digest → ℕ → Digest → Process
  with_root roots more root = many more (bytes 32) (λ rest. to_section3 (roots ++ root ∷ rest))

  abbrev pub with_coefficient : List Digest → List ℕ → ℕ → ℕ → Process
  with_coefficient roots final more v = many more number (λ rest. to_section4 roots (final ++ v ∷ rest))

  pub sections_are : sections hash p first (λ _. done) ≡ need 2 (counting header_size (need header_size with_parameters))
  unfolding sections ◌>>=◌ ◌>>◌ bytes count
  sections_are = refl

  -- The tables hold these roots with their challenges, and these coefficients.
  pub record Read (t : Tables) (roots : List Digest) (final : List ℕ) : Type 0 where
    pub sized : Sized 32 roots
    pub roots_kept : Filled 512 (joined roots) t.roots
    pub challenges_kept : Filled 16 (challenges hash first roots) t.challenges
    pub final_kept : Filled 64 final t.coefficients

  -- In sections 1 to 3: so much is read, the next coefficient and the transcript follow it.
  pub record Early (coefficient : ℕ) (transcript : Digest) (t : Tables) (roots : List Digest) (final : List ℕ) : Type 0 where
    pub read : Read t roots final
    pub coefficient-next : length final ≡ coefficient
    pub transcript_is : transcript ≡ absorbed hash first roots

  -- In section 4: the sections before it are read, and the transcript draws the queries.
  pub record Late (transcript : Digest) (t : Tables) (roots : List Digest) (final : List ℕ) : Type 0 where
    pub read : Read t roots final
    pub transcript_is : transcript ≡ drawing roots final
    pub all_roots : length roots ≡ p.k
    pub all_final : length final ≡ final_count p

  -- In this layer of this query: `more` queries follow it, the layer's root is `root`, and `earlier` is the transcript before that root.
  pub record Walking (query layer : ℕ) (transcript : Digest) (t : Tables) : Type 0 where
    pub roots : List Digest
    pub final : List ℕ
    pub late : Late transcript t roots final
    pub more : ℕ
    pub queries_are : suc query + more ≡ p.q
    pub before : List Digest
    pub root : Digest
    pub after : List Digest
    pub roots_are : roots ≡ before ++ root ∷ after
    pub layer_is : length before ≡ layer
    pub earlier : Digest
    pub earlier_is : earlier ≡ absorbed hash first before

  module _ {query layer : ℕ} {transcript : Digest} {t : Tables} (w : Walking query layer transcript t) where
    -- What is left after the query; after the layer, at the index m, where the next value must meet e; with the node that a path ends on; and before
    -- count siblings more, above a node with this number in its row.
    abbrev pub to_next : Process
    to_next = to_queries w.roots w.final w.more (suc query)

    abbrev pub to_layers : ℕ → Expected → Process
    to_layers m e = walk hash p w.final (suc layer) m e (absorb hash w.earlier w.root) w.after (λ _. to_next)

    abbrev pub with_node : ℕ → Expected → Digest → Process
    with_node m e node = ensure (same_bytes node w.root) path_misses_root (λ _. to_layers m e)

    abbrev pub to_siblings : ℕ → Expected → ℕ → Digest → ℕ → Process
    to_siblings m e count node position = many count (bytes 32) (λ siblings. with_node m e (climb hash node position siblings))

    -- With the values of the layer's leaf, at the index m, where they must meet e; and with a value after these, so many more to come.
    abbrev pub with_leaf : ℕ → Expected → List ℕ → Process
    with_leaf m e values =
        ensure (fits e (value_at p layer m values)) not_the_folded_value
        (λ _. to_siblings (m % leaf_count p layer)
        (expected (point p.n (depth p layer) (m % leaf_count p layer)) (challenge hash (absorb hash w.earlier w.root)) values)
        (height p layer) (leaf_digest hash layer values) (m % leaf_count p layer))

    abbrev pub with_value : ℕ → Expected → List ℕ → ℕ → ℕ → Process
    with_value m e values more v = many more number (λ rest. with_leaf m e (values ++ v ∷ rest))

    pub walk_is : (m : ℕ) (e : Expected) (more : ℕ) → values_per_leaf p ≡ suc more
        → walk hash p w.final layer m e w.earlier (w.root ∷ w.after) (λ _. to_next) ≡ need 4 (numbered (with_value m e [] more))
    unfolding walk number many ◌>>=◌ ◌>>◌ bytes pure
    walk_is m e more h = ap (λ n. many n number (λ values. with_leaf m e values)) h

    pub siblings-more : (m : ℕ) (e : Expected) (count : ℕ) (node : Digest) (position : ℕ)
        → to_siblings m e (suc count) node position ≡ need 32 (λ x. to_siblings m e count (parent hash (position % 2) node x) (position / 2))
    unfolding many climb ◌>>=◌ bytes pure
    siblings-more m e count node position = refl

    pub siblings_none : (m : ℕ) (e : Expected) (node : Digest) (position : ℕ) → to_siblings m e zero node position ≡ with_node m e node
    unfolding many climb pure
    siblings_none m e node position = refl

-- The bounds of every state that is not stopped. They are stated of its parts, so that a step which keeps the parts keeps the bounds.
pub record Bounds (p : Params) (item values : List ℕ) (coefficient query layer value height : ℕ) : Type 0 where
  pub valid : Valid p
  pub item-size : length item ≡ 32
  pub values-size : length values ≡ 4
  pub coefficient-low : coefficient < 64
  pub query-low : query < 128
  pub layer-low : layer < 16
  pub value_low : value < 4
  pub height-low : height < 32

-- The same at another cursor, and with other values.
pub at_cursor : {p : Params} {item values : List ℕ} {i j k r h coefficient query layer value height : ℕ} → Bounds p item values i j k r h
    → coefficient < 64 → query < 128 → layer < 16 → value < 4 → height < 32 → Bounds p item values coefficient query layer value height
at_cursor s a b c d e =
    record {
      valid = s.valid;
      item-size = s.item-size;
      values-size = s.values-size;
      coefficient-low = a;
      query-low = b;
      layer-low = c;
      value_low = d;
      height-low = e;
    }

pub with_values : {p : Params} {item values values' : List ℕ} {i j k r h : ℕ} → Bounds p item values i j k r h → length values' ≡ 4
    → Bounds p item values' i j k r h
with_values s e =
    record {
      valid = s.valid;
      item-size = s.item-size;
      values-size = e;
      coefficient-low = s.coefficient-low;
      query-low = s.query-low;
      layer-low = s.layer-low;
      value_low = s.value_low;
      height-low = s.height-low;
    }

abbrev pub Sound : Core → Type 0
Sound c =
    Bounds c.params c.item c.walk.values c.cursor.coefficient c.cursor.query c.cursor.layer c.cursor.value c.cursor.height

module _ (hash : List ℕ → Digest) (first : Digest) where
  abbrev pub EarlyAt : Core → Tables → List Digest → List ℕ → Type 0
  EarlyAt c t roots final = Early hash c.params first c.cursor.coefficient c.transcript t roots final

  abbrev pub WalkingAt : Core → Tables → Type 0
  WalkingAt c t = Walking hash c.params first c.cursor.query c.cursor.layer c.transcript t

  -- A state with these parts waits for an item of so many bytes, and with them this is left.
  pub data Waiting (p : Params) (c : Cursor) (w : Walk) (transcript : Digest) (t : Tables) : Stage → ℕ → (List ℕ → Process) → Type 0 where
    parameter_count : Early hash p first c.coefficient transcript t [] [] → c.layer ≡ 0
        → Waiting p c w transcript t ParameterCount 2 (counting header_size (need header_size (with_parameters hash p first)))
    parameters : Early hash p first c.coefficient transcript t [] [] → c.layer ≡ 0
        → Waiting p c w transcript t Parameters header_size (with_parameters hash p first)
    root_count : Early hash p first c.coefficient transcript t [] [] → c.layer ≡ 0
        → Waiting p c w transcript t RootCount 2 (counting p.k (many p.k (bytes 32) (to_section3 hash p first)))
    root : {roots : List Digest} (more : ℕ) → Early hash p first c.coefficient transcript t roots [] → c.layer ≡ length roots
        → length roots + suc more ≡ p.k → Waiting p c w transcript t Root 32 (with_root hash p first roots more)
    coefficient-count : {roots : List Digest} → Early hash p first c.coefficient transcript t roots [] → length roots ≡ p.k
        → Waiting p c w transcript t CoefficientCount 2 (counting (final_count p) (many (final_count p) number (to_section4 hash p first roots)))
    coefficient : {roots : List Digest} {final : List ℕ} (more : ℕ) → Early hash p first c.coefficient transcript t roots final
        → length roots ≡ p.k → length final + suc more ≡ final_count p
        → Waiting p c w transcript t Coefficient 4 (numbered (with_coefficient hash p first roots final more))
    query_count : {roots : List Digest} {final : List ℕ} → Late hash p first transcript t roots final
        → Waiting p c w transcript t QueryCount 2 (counting p.q (to_queries hash p first roots final p.q 0))
    value : (x : Walking hash p first c.query c.layer transcript t) {values : List ℕ} (more : ℕ) → c.height ≡ 0
        → Filled 4 values w.values → length values ≡ c.value → length values + suc more ≡ values_per_leaf p
        → Waiting p c w transcript t Value 4 (numbered (with_value hash p first x w.index (wanted w) values more))
    sibling : (x : Walking hash p first c.query c.layer transcript t) (more : ℕ) → c.height + suc more ≡ height p c.layer
        → Waiting p c w transcript t Sibling 32
        (λ digest. to_siblings hash p first x w.index (wanted w) more (parent hash (w.position % 2) w.node digest) (w.position / 2))

  abbrev pub At : Core → Tables → Stage → ℕ → (List ℕ → Process) → Type 0
  At c t = Waiting c.params c.cursor c.walk c.transcript t

  -- The state after an item that ended at this place, where this is left. A refused reader's tables stay as they are.
  pub data After (c : Core) (t : Tables) (place : ℕ) : Process → Type 0 where
    goes : {u : ℕ} {f : List ℕ → Process} → Sound c → At c t c.stage u f → c.fill ≡ 0 → c.cursor.start ≡ place → After c t place (need u f)
    ends : Sound c → c.stage ≡ Tail → c.fill ≡ 0 → c.cursor.start ≡ place → After c t place done
    stops : {number : ℕ} → is_fault number ≡ true → c ≡ stopped (answered number place) → After c t place (fail number)
