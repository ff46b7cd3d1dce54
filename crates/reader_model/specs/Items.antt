-- What a whole item does to the state, stage by stage: the tests of the judgement, in its order, over what the state has kept.
use Rattle.std.specs.Prelude.{ℕ, ◌+◌, ◌*◌, ◌/◌, ◌%◌, Bool, cond, ◌&&◌, List, get_or, set, take, drop, ltb, leb, eqb}
use Rattle.std.proofs.lemmas.List.Edits.{sets}
use Rattle.answer.specs.Table.{answered, closed, count_differs, parameters_differ, not_below_modulus, not_the_folded_value, path_misses_root, misses_final_polynomial, byte_after_the_end}
use Rattle.field.specs.Modular.{p as modulus}
use Rattle.message.specs.Bytes.{num}
use Rattle.message.specs.Message.{Digest}
use Rattle.params.specs.Parameters.{header_size, header, final_count, if_valid, depth, values_per_leaf, height, leaf_count, index_bits}
use Rattle.domain.specs.Domain.{point}
use Rattle.merkle.specs.Merkle.{leaf_digest, parent}
use Rattle.transcript.specs.Transcript.{absorb, challenge, absorb_final, draw}
use Rattle.fold.specs.Poly.{eval}
use Rattle.fold.specs.Fold.{expected, agrees}
use Rattle.fri.specs.Judge.{same_bytes, value_at}
use Rattle.reader_model.specs.declared.Stage.{Stage}
use Rattle.reader_model.specs.declared.Stage.TheVariants.{ParameterCount, Parameters, RootCount, Root, CoefficientCount, Coefficient, QueryCount, Value, Sibling, Tail, Stopped}
use Rattle.reader_model.specs.declared.Walk.{Walk}
use Rattle.reader_model.specs.declared.Core.{Core}
use Rattle.reader_model.specs.declared.Tables.{Tables}
use Rattle.reader_model.specs.declared.Reader.{Reader}
use Rattle.reader_model.specs.State.{stopped, keeping, whole, place, with_core, with_cursor, with_walk, with_transcript, moved_to}

-- The bounds that every state of a reader keeps; a state outside them is made by no call.
unfoldable pub sane : Core → Bool
sane c =
    leb c.fill 32
    && (ltb c.cursor.start 2147483648
    && (ltb c.cursor.coefficient 64
    && (ltb c.cursor.query 128
    && (ltb c.cursor.layer 16
    && (ltb c.cursor.value 4
    && ltb c.cursor.height 32)))))

-- Refused with this number, at the item's last byte.
unfoldable pub refused : Core → ℕ → Core
refused c number = stopped (answered number (place c))

-- A count, or a number, at the front of the item.
abbrev pub count_of : Core → ℕ
count_of c = num (take 2 c.item)

abbrev pub item_number : Core → ℕ
item_number c = num (take 4 c.item)

-- The number of final coefficients.
abbrev pub finals : Core → ℕ
finals c = if_valid c.params (final_count c.params)

-- The cursor at another coefficient, layer (at its first value and height), value or height.
abbrev pub at_coefficient : Core → ℕ → Core
at_coefficient c i = with_cursor c (record { start = c.cursor.start; coefficient = i; query = c.cursor.query; layer = c.cursor.layer; value = c.cursor.value; height = c.cursor.height })

abbrev pub at_layer : Core → ℕ → Core
at_layer c j = with_cursor c (record { start = c.cursor.start; coefficient = c.cursor.coefficient; query = c.cursor.query; layer = j; value = 0; height = 0 })

abbrev pub at_value : Core → ℕ → Core
at_value c r = with_cursor c (record { start = c.cursor.start; coefficient = c.cursor.coefficient; query = c.cursor.query; layer = c.cursor.layer; value = r; height = c.cursor.height })

abbrev pub at_height : Core → ℕ → Core
at_height c h = with_cursor c (record { start = c.cursor.start; coefficient = c.cursor.coefficient; query = c.cursor.query; layer = c.cursor.layer; value = c.cursor.value; height = h })

unfoldable pub after_count : Core → ℕ → Stage → Core
after_count c want stage = cond (eqb (count_of c) want) (moved_to c stage) (refused c count_differs)

unfoldable pub after_parameters : Core → Core
after_parameters c = cond (same_bytes (take header_size c.item) (header c.params)) (moved_to c RootCount) (refused c parameters_differ)

-- The array of the leaf's values with this one, the values in such an array, and the walk with it.
abbrev pub values_with : Core → List ℕ
values_with c = set c.walk.values c.cursor.value (item_number c)

abbrev pub leaf_of : Core → List ℕ → List ℕ
leaf_of c values = take (values_per_leaf c.params) values

abbrev pub with_values : Core → List ℕ → Core
with_values c values =
    let w = c.walk in
    with_walk c (record { index = w.index; position = w.position; values = values; scale = w.scale; folded = w.folded; node = w.node })

-- Whether the value that the index names is the folded one.
unfoldable pub linked : Core → List ℕ → Bool
linked c values = agrees c.walk.scale c.walk.folded (value_at c.params c.cursor.layer c.walk.index (leaf_of c values))

-- The leaf of this layer, and the point of its first value.
abbrev pub leaf_index : Core → ℕ
leaf_index c = c.walk.index % leaf_count c.params c.cursor.layer

abbrev pub leaf_point : Core → ℕ
leaf_point c = point c.params.n (depth c.params c.cursor.layer) (leaf_index c)

-- Whether the node is the root of its layer.
unfoldable pub rooted : Core → List ℕ → Bool
rooted c roots = same_bytes c.walk.node (take 32 (drop (32 * c.cursor.layer) roots))

-- Whether the chain ends on the final polynomial.
unfoldable pub finished : Core → List ℕ → Bool
finished c coefficients =
    agrees c.walk.scale c.walk.folded (eval (take (finals c) coefficients) (point c.params.n (depth c.params c.params.k) c.walk.index))

module _ (hash : List ℕ → Digest) where
  -- A root: absorbed, then its challenge is drawn; it and its challenge are kept.
  unfoldable pub root_state : Core → Digest
  root_state c = absorb hash c.transcript c.item

  unfoldable pub after_root : Core → Core
  after_root c =
      let next = with_transcript c (root_state c) in
      cond (ltb (c.cursor.layer + 1) c.params.k)
      (moved_to (at_layer next (c.cursor.layer + 1)) Root)
      (moved_to (at_layer next 0) CoefficientCount)

  unfoldable pub roots_after : Core → List ℕ → List ℕ
  roots_after c roots = sets roots (32 * c.cursor.layer) c.item

  unfoldable pub challenges_after : Core → List ℕ → List ℕ
  challenges_after c challenges = set challenges c.cursor.layer (challenge hash (root_state c))

  -- A final coefficient is kept; after the last one all are absorbed.
  unfoldable pub coefficients_after : Core → List ℕ → List ℕ
  coefficients_after c coefficients = cond (ltb (item_number c) modulus) (set coefficients c.cursor.coefficient (item_number c)) coefficients

  unfoldable pub after_coefficient : Core → List ℕ → Core
  after_coefficient c coefficients =
      cond (ltb (item_number c) modulus)
      (cond (ltb (c.cursor.coefficient + 1) (finals c))
      (moved_to (at_coefficient c (c.cursor.coefficient + 1)) Coefficient)
      (moved_to (with_transcript (at_coefficient c 0) (absorb_final hash c.transcript (take (finals c) (coefficients_after c coefficients)))) QueryCount))
      (refused c not_below_modulus)

  -- The start of query i's walk.
  unfoldable pub at_query : Core → ℕ → Core
  at_query c i =
      with_walk
      (with_cursor c (record { start = c.cursor.start; coefficient = c.cursor.coefficient; query = i; layer = 0; value = 0; height = 0 }))
      (record {
        index = draw hash c.transcript (index_bits c.params) i;
        position = 0;
        values = c.walk.values;
        scale = 0;
        folded = 0;
        node = c.walk.node;
      })

  unfoldable pub after_query_count : Core → Core
  after_query_count c = cond (eqb (count_of c) c.params.q) (moved_to (at_query c 0) Value) (refused c count_differs)

  -- The walk at its leaf: what the next value must meet, and the leaf's digest.
  unfoldable pub at_leaf : Core → ℕ → List ℕ → Walk
  at_leaf c β values =
      record {
        index = leaf_index c;
        position = leaf_index c;
        values = values;
        scale = (expected (leaf_point c) β (leaf_of c values)).scale;
        folded = (expected (leaf_point c) β (leaf_of c values)).folded;
        node = leaf_digest hash c.cursor.layer (leaf_of c values);
      }

  -- The leaf's last value, in this array with the others: the one that the index names must be the folded one.
  unfoldable pub after_leaf : Core → List ℕ → List ℕ → Core
  after_leaf c challenges values =
      cond (linked c values)
      (moved_to (with_walk c (at_leaf c (get_or challenges c.cursor.layer 0) values)) Sibling)
      (refused c not_the_folded_value)

  -- A value is kept until the last one is there.
  unfoldable pub after_value : Core → List ℕ → Core
  after_value c challenges =
      cond (ltb (item_number c) modulus)
      (cond (ltb (c.cursor.value + 1) (values_per_leaf c.params))
      (moved_to (at_value (with_values c (values_with c)) (c.cursor.value + 1)) Value)
      (after_leaf c challenges (values_with c)))
      (refused c not_below_modulus)

  -- One node up.
  unfoldable pub climbed : Core → Walk
  climbed c =
      let w = c.walk in
      record {
        index = w.index;
        position = w.position / 2;
        values = w.values;
        scale = w.scale;
        folded = w.folded;
        node = parent hash (w.position % 2) w.node c.item;
      }

  -- A query has ended: the next one, or the end of the file.
  unfoldable pub next_query : Core → Core
  next_query c = cond (ltb (c.cursor.query + 1) c.params.q) (moved_to (at_query c (c.cursor.query + 1)) Value) (moved_to c Tail)

  -- A layer has ended: the next one, or the final polynomial.
  unfoldable pub next_layer : Core → List ℕ → Core
  next_layer c coefficients =
      cond (ltb (c.cursor.layer + 1) c.params.k)
      (moved_to (at_layer c (c.cursor.layer + 1)) Value)
      (cond (finished c coefficients) (next_query c) (refused c misses_final_polynomial))

  -- A path has ended.
  unfoldable pub after_path : Core → List ℕ → List ℕ → Core
  after_path c roots coefficients = cond (rooted c roots) (next_layer c coefficients) (refused c path_misses_root)

  unfoldable pub after_sibling : Core → List ℕ → List ℕ → Core
  after_sibling c roots coefficients =
      let up = with_walk c (climbed c) in
      cond (ltb (c.cursor.height + 1) (height c.params c.cursor.layer))
      (moved_to (at_height up (c.cursor.height + 1)) Sibling)
      (after_path up roots coefficients)

  -- The state after a whole item of each stage. Roots, challenges and coefficients go into the tables; every other item leaves them as they are.
  abbrev pub after_item : Stage → Core → Tables → Reader
  after_item ParameterCount c t = keeping t (after_count c header_size Parameters)
  after_item Parameters c t = keeping t (after_parameters c)
  after_item RootCount c t = keeping t (after_count c c.params.k Root)
  after_item Root c t = whole (after_root c) (roots_after c t.roots) (challenges_after c t.challenges) t.coefficients
  after_item CoefficientCount c t = keeping t (after_count c (finals c) Coefficient)
  after_item Coefficient c t = whole (after_coefficient c t.coefficients) t.roots t.challenges (coefficients_after c t.coefficients)
  after_item QueryCount c t = keeping t (after_query_count c)
  after_item Value c t = keeping t (after_value c t.challenges)
  after_item Sibling c t = keeping t (after_sibling c t.roots t.coefficients)
  after_item Tail c t = keeping t (refused c byte_after_the_end)
  after_item Stopped c t = keeping t c

  -- The same of a state, by its own stage, if it keeps the bounds.
  unfoldable pub advanced : Reader → Reader
  advanced r = cond (sane r.core) (after_item r.core.stage r.core r.tables) (with_core r (stopped (answered closed 0)))
