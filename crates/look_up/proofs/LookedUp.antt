-- In a file with the published layout the look-up hands back exactly the bytes of the opening that it is asked for, where they stand; so in every accepted file,
-- whatever the hash. Assumes nothing.
use Prim.Native.Nat.{ℕ, zero, suc, ◌+◌, ◌*◌, ◌<◌}
use mathlib.Core.List.{List, [], ◌∷◌, ◌++◌, map, append_assoc, append-nil}
use mathlib.Core.Path.{◌≡◌, refl, ap, ap₂, sym, ◌∙◌}
use native.Mathlib.Nat.{mul_comm}
use native.Mathlib.Omega.{arith}
use lib.ListN.{length, get_or, take, length-append, length-map, get_or-map}
use lib.Seq.{drop-append-add}
use Rattle.answer.specs.Table.{answered, open_so_far, accepted}
use Rattle.message.specs.Bytes.{le, part, joined, words, Bytes}
use Rattle.message.specs.Message.{Digest}
use Rattle.message.proofs.Bytes.{Sized, sized, le-length, part_at, part-part, joined_at, joined_length}
use Rattle.message.proofs.MessageLaws.{words-length}
use Rattle.params.specs.declared.Params.{Params}
use Rattle.params.specs.Parameters.{header_size, header, final_count, opening_length, query_length, queries_offset, opening_offset, file_length}
use Rattle.params.specs.Admission.{admission, Admitted}
use Rattle.params.specs.declared.Terms.{Terms}
use Rattle.fri.specs.Encoding.{Opening, Proof, no_opening, opening_at, opening_bytes, query_bytes, encode, IsOpening, HasLayout}
use Rattle.fri.specs.Judge.{verdict}
use Rattle.fri.specs.Accepted.{Accepted}
use Rattle.fri.proofs.Exactly.{verdict-accepted}
use Rattle.look_up.specs.LookUp.{look_up_number, look_up_answer, look_up_part, look_up_span, look_up_place}
use Rattle.look_up.proofs.LookUpLaws.{present_test, layer_within}

words_sized : (vs : List ℕ) → Sized 4 (map (le 4) vs)
words_sized [] = Sized.none
words_sized (v ∷ vs) = Sized.more (le-length 4 v) (words_sized vs)

-- A part behind the first block.
part_after : (xs ys : List ℕ) (a b n : ℕ) → length xs ≡ a → part (a + b) n (xs ++ ys) ≡ part b n ys
unfolding part
part_after xs ys a b n e = rw (← e) (ap (take n) (drop-append-add xs ys b))

opening_size : (p : Params) (j : ℕ) (o : Opening) → IsOpening p j o → length (opening_bytes o) ≡ opening_length p j
unfolding opening_bytes
opening_size p j o form =
    let digests : length (joined o.siblings) ≡ 32 * length o.siblings =
    joined_length (sized 32 o.siblings (λ h l. (form.sibling h (omega (arith, form.sibling_count))).size)) in
    omega (
      arith,
      digests,
      form.sibling_count,
      form.value_count,
      words-length o.values,
      length-append (words o.values) (joined o.siblings),
    )

-- The bytes of query i.
query_at : (qs : List (List Opening)) (i : ℕ) → get_or (map query_bytes qs) i [] ≡ query_bytes (get_or qs i [])
unfolding query_bytes joined
query_at qs i = get_or-map query_bytes qs i []

-- What stands before the openings.
abbrev front : Params → Proof → List ℕ
front p proof =
    le 2 header_size ++ (header p ++ (le 2 p.k ++ (joined proof.roots ++ (le 2 (final_count p) ++ (words proof.final ++ le 2 p.q)))))

encode_split : (p : Params) (proof : Proof) → encode p proof ≡ front p proof ++ joined (map query_bytes proof.queries)
unfolding encode
encode_split p proof = simp append_assoc

module _ (p : Params) where
  -- The openings os, in the layers from one on, have their sizes.
  abbrev Openings : ℕ → List Opening → Type 0
  Openings from os = (c l : ℕ) → l ≡ from + c → c < length os → length (opening_bytes (get_or os c no_opening)) ≡ opening_length p l

  next : (from : ℕ) (o : Opening) (os : List Opening) → Openings from (o ∷ os) → Openings (suc from) os
  next from o os sizes c l e h = sizes (suc c) l (omega arith) (omega arith)

  query-size : (from : ℕ) (os : List Opening) → Openings from os → length (query_bytes os) ≡ query_length p from (length os)
  unfolding query_bytes joined query_length
  query-size from [] sizes = refl
  query-size from (o ∷ os) sizes =
      length-append (opening_bytes o) (query_bytes os)
      ∙ ap₂ (λ u v. u + v) (sizes 0 from (omega arith) (omega arith)) (query-size (suc from) os (next from o os sizes))

  layer_at_lem : (from : ℕ) (os : List Opening) → Openings from os → (j l : ℕ) → l ≡ from + j → j < length os
      → part (query_length p from j) (opening_length p l) (query_bytes os) ≡ opening_bytes (get_or os j no_opening)
  unfolding query_bytes joined query_length
  layer_at_lem from [] sizes j l e h = absurd (omega arith)
  layer_at_lem from (o ∷ os) sizes zero l e h = part_at [] (opening_bytes o) (query_bytes os) 0 (opening_length p l) refl (sizes 0 l e h)
  layer_at_lem from (o ∷ os) sizes (suc j) l e h =
      part_after (opening_bytes o) (query_bytes os) (opening_length p from) (query_length p (suc from) j) (opening_length p l)
      (sizes 0 from (omega arith) (omega arith))
      ∙ layer_at_lem (suc from) os (next from o os sizes) j l (omega arith) (omega arith)

  module _ (proof : Proof) (layout : HasLayout p proof) where
    openings : (i : ℕ) → i < p.q → Openings 0 (get_or proof.queries i [])
    openings i h c l e k =
        let same : l ≡ c = omega arith in
        rw same (opening_size p c (opening_at proof i c) (layout.opening_form i c h (omega (arith, layout.layer_count i h))))

    queries_sized : Sized (query_length p 0 p.k) (map query_bytes proof.queries)
    queries_sized =
        sized _ _ (λ i h.
        let inside : i < p.q = omega (arith, layout.query_count, length-map proof.queries query_bytes) in
        ap length (query_at proof.queries i)
        ∙ query-size 0 (get_or proof.queries i []) (openings i inside)
        ∙ ap (query_length p 0) (layout.layer_count i inside))

    front_size : length (front p proof) ≡ queries_offset p
    unfolding words queries_offset
    front_size =
        let roots : length (joined proof.roots) ≡ 32 * length proof.roots =
        joined_length (sized 32 proof.roots (λ j h. (layout.root_digest j (omega (arith, layout.root_count))).size)) in
        let final : length (words proof.final) ≡ 4 * length (map (le 4) proof.final) = joined_length (words_sized proof.final) in
        simp length-append
        (omega (
          arith,
          roots,
          final,
          layout.root_count,
          layout.final_count_lem,
          length-map proof.final (le 4),
          le-length 2 4,
          le-length 2 p.k,
          le-length 2 (final_count p),
          le-length 2 p.q,
        ))

    -- A file with the layout has the length L.
    pub encoded_length : length (encode p proof) ≡ file_length p
    unfolding file_length
    encoded_length =
        ap length (encode_split p proof)
        ∙ length-append (front p proof) (joined (map query_bytes proof.queries))
        ∙ ap₂ (λ u v. u + v) front_size
        (joined_length queries_sized
        ∙ ap (λ u. query_length p 0 p.k * u) (length-map proof.queries query_bytes ∙ layout.query_count)
        ∙ mul_comm (query_length p 0 p.k) p.q)

    module _ (i j : ℕ) (query : i < p.q) (layer : j < p.k) where
      query-bytes : part (query_length p 0 p.k * i) (query_length p 0 p.k) (joined (map query_bytes proof.queries))
          ≡ query_bytes (get_or proof.queries i [])
      query-bytes =
          ap (part (query_length p 0 p.k * i) (query_length p 0 p.k)) (sym (append-nil (joined (map query_bytes proof.queries))))
          ∙ joined_at queries_sized [] i (omega (arith, query, layout.query_count, length-map proof.queries query_bytes))
          ∙ query_at proof.queries i

      -- Where the parameters say, there stand the bytes of the opening of query i in layer j.
      pub encoded_opening : part (opening_offset p i j) (opening_length p j) (encode p proof) ≡ opening_bytes (opening_at proof i j)
      unfolding opening_offset
      encoded_opening =
          let Q = query_length p 0 p.k in
          let rest = joined (map query_bytes proof.queries) in
          let at_place : queries_offset p + i * Q + query_length p 0 j ≡ queries_offset p + (Q * i + query_length p 0 j) = omega (arith, mul_comm i Q) in
          ap₂ (λ u v. part u (opening_length p j) v) at_place (encode_split p proof)
          ∙ part_after (front p proof) rest (queries_offset p) (Q * i + query_length p 0 j) (opening_length p j) front_size
          ∙ sym (part-part (Q * i) Q (query_length p 0 j) (opening_length p j) rest (layer_within p 0 j j p.k (omega arith) layer))
          ∙ ap (part (query_length p 0 j) (opening_length p j)) query-bytes
          ∙ layer_at_lem 0 (get_or proof.queries i []) (openings i query) j j (omega arith) (omega (arith, layer, layout.layer_count i query))

      -- So the look-up finds it.
      pub encoded_answer : admission p ≡ open_so_far → look_up_answer p (encode p proof) i j ≡ answered open_so_far 0
      unfolding look_up_answer look_up_number
      encoded_answer v = rw (v, present_test p (length (encode p proof)) i j encoded_length query layer)

      pub encoded_part : admission p ≡ open_so_far → look_up_part p (encode p proof) i j ≡ opening_bytes (opening_at proof i j)
      unfolding look_up_part
      encoded_part v = rw (v, present_test p (length (encode p proof)) i j encoded_length query layer) encoded_opening

      pub encoded_place : admission p ≡ open_so_far → (place : ℕ × ℕ) → look_up_place p place (encode p proof) i j ≡ (place.0, place.1 + opening_offset p i j)
      unfolding look_up_place look_up_span
      encoded_place v place = rw (v, present_test p (length (encode p proof)) i j encoded_length query layer)

-- In an accepted file the look-up finds every opening of its proof.
pub looked_up : (hash : List ℕ → Digest) (p : Params) (context file : List ℕ) → admission p ≡ open_so_far → (a : Accepted hash p context file)
    → (i j : ℕ) → i < p.q → j < p.k
    → (look_up_answer p file i j ≡ answered open_so_far 0) × (look_up_part p file i j ≡ opening_bytes (opening_at a.proof i j))
    × ((place : ℕ × ℕ) → look_up_place p place file i j ≡ (place.0, place.1 + opening_offset p i j))
looked_up hash p context file v a i j h l = (
  ap (λ u. look_up_answer p u i j) a.bytes ∙ encoded_answer p a.proof a.layout i j h l v,
  ap (λ u. look_up_part p u i j) a.bytes ∙ encoded_part p a.proof a.layout i j h l v,
  λ place. ap (λ u. look_up_place p place u i j) a.bytes ∙ encoded_place p a.proof a.layout i j h l v place,
)

-- An accepted file, with what the look-up in it answers and hands back, and where that stands for a file at any place.
pub record LookedUp (hash : List ℕ → Digest) (p : Params) (context file : List ℕ) : Type 0 where
  pub is_accepted : Accepted hash p context file
  pub answers : (i j : ℕ) → i < p.q → j < p.k → look_up_answer p file i j ≡ answered open_so_far 0
  pub parts : (i j : ℕ) → i < p.q → j < p.k → look_up_part p file i j ≡ opening_bytes (opening_at is_accepted.proof i j)
  pub places : (i j : ℕ) → i < p.q → j < p.k → (place : ℕ × ℕ) → look_up_place p place file i j ≡ (place.0, place.1 + opening_offset p i j)

-- A file that the verdict accepts is the encoding of a proof with the layout, and the look-up hands back its openings.
pub verdict_looked_up : (hash : List ℕ → Digest) (a : Terms) (file : List ℕ) → Admitted a → Bytes file
    → verdict hash a file ≡ answered accepted (length file) → LookedUp hash a.params a.context file
verdict_looked_up hash a file v b e =
    let h = verdict-accepted hash a file v b e in
    record {
      is_accepted = h;
      answers = λ i j k l. (looked_up hash a.params a.context file v h i j k l).0;
      parts = λ i j k l. (looked_up hash a.params a.context file v h i j k l).1;
      places = λ i j k l. (looked_up hash a.params a.context file v h i j k l).2;
    }
