-- A judgement that ends has read the bytes of a proof that holds: the converse of Reading, for bytes below 256. Assumes nothing.
use Prim.Native.Nat.{ℕ, zero, suc, ◌+◌, ◌%◌, ◌<◌, ◌≤◌}
use mathlib.Core.Bool.{Bool, true, false}
use mathlib.Core.List.{List, [], ◌∷◌, ◌++◌, append_assoc, append-nil, map, map-id}
use mathlib.Core.Path.{◌≡◌, refl, ap, ap₂, sym, ◌∙◌, subst}
use native.Mathlib.Omega.{arith}
use lib.Dec.{leb, ltb, eqb}
use lib.ListN.{length, get_or, take, drop, length-take, take-append-drop}
use borrow.Author.Tests.{leb-true, leb-false, ltb-true, eqb-true}
use Rattle.answer.specs.Table.{count_differs, parameters_differ, not_below_modulus, not_the_folded_value, path_misses_root, misses_final_polynomial}
use Rattle.params.specs.declared.Params.{Params}
use Rattle.params.specs.Parameters.{header_size, header, values_per_leaf, height, leaf_count, index_bits, final_count}
use Rattle.field.specs.Modular.{p as modulus}
use Rattle.message.specs.Bytes.{le, num, joined, words, Bytes}
use Rattle.message.specs.Message.{Digest}
use Rattle.message.proofs.Bytes.{bytes_below, take-bytes, drop-bytes, taken-number}
use Rattle.transcript.specs.Transcript.{start, absorb, draw}
use Rattle.fold.specs.Fold.{Expected, anything}
use Rattle.fri.specs.Process.{Process, need, refused, ended, left, outcome, run, Parser, pure, ◌>>=◌, ◌>>◌, bytes, ensure, many}
use Rattle.fri.specs.Encoding.{Opening, Proof, opening_bytes, query_bytes, encode, IsDigest, IsOpening}
use Rattle.fri.specs.Judge.{count, number, walk, queries, sections}
use Rattle.fri.specs.Accepted.{drawn_leaf, Accepted}
use Rattle.fri.proofs.Same.{same-equal}
use Rattle.fri.proofs.Process.{left_enough, left-few, Any}
use Rattle.fri.proofs.Chain.{Chain, end, layer, QueryChain, chains_count, chains_form, chains_hold}

-- The bytes xs are some that were used for a value, and a tail on which the process k of the value ends.
pub record Split {A : Type 0} (R : List ℕ → A → Type 0) (k : A → Process) (xs rest : List ℕ) (place : ℕ) : Type 0 where
  pub value : A
  pub used : List ℕ
  pub tail : List ℕ
  pub from : ℕ
  pub whole : xs ≡ used ++ tail
  pub related : R used value
  pub tail_bytes : Bytes tail
  pub goes : run (k value) tail from ≡ ended rest place

-- Where a process that begins with p ends, p has used bytes for a value to which R relates them.
pub record Inverts {A : Type 0} (p : Parser A) (R : List ℕ → A → Type 0) : Type 0 where
  pub invert : (k : A → Process) (xs : List ℕ) (at : ℕ) (rest : List ℕ) (place : ℕ) → Bytes xs
      → run (p k) xs at ≡ ended rest place → Split R k xs rest place

-- The bytes are the value's encoding, and the value has the property P.
pub record Encoded {A : Type 0} (encoding : A → List ℕ) (P : A → Type 0) (us : List ℕ) (a : A) : Type 0 where
  pub same : us ≡ encoding a
  pub good : P a

-- Less may be claimed.
weaken : {A : Type 0} {R S : List ℕ → A → Type 0} {p : Parser A} → Inverts p R → ((us : List ℕ) (a : A) → R us a → S us a) → Inverts p S
weaken r f =
    record {
      invert = λ k xs at rest place h e.
          let x = r.invert k xs at rest place h e in
          record {
            value = x.value;
            used = x.used;
            tail = x.tail;
            from = x.from;
            whole = x.whole;
            related = f x.used x.value x.related;
            tail_bytes = x.tail_bytes;
            goes = x.goes;
          };
    }

inverts_pure : {A : Type 0} {S : List ℕ → A → Type 0} (a : A) → S [] a → Inverts (pure a) S
unfolding pure
inverts_pure a s =
    record {
      invert = λ k xs at rest place h e. record { value = a; used = []; tail = xs; from = at; whole = refl; related = s; tail_bytes = h; goes = e };
    }

-- One part after another: the claim is on the bytes of both, and the second may use what is known of the first.
inverts_bind : {A B : Type 0} {R : List ℕ → A → Type 0} {S : List ℕ → B → Type 0} {p : Parser A} (f : A → Parser B)
    → Inverts p R → ((a : A) (us : List ℕ) → R us a → Inverts (f a) (λ vs b. S (us ++ vs) b)) → Inverts (p >>= f) S
unfolding ◌>>=◌
inverts_bind f r s =
    record {
      invert = λ k xs at rest place h e.
          let x = r.invert (λ a. f a k) xs at rest place h e in
          let y = (s x.value x.used x.related).invert k x.tail x.from rest place x.tail_bytes x.goes in
          record {
            value = y.value;
            used = x.used ++ y.used;
            tail = y.tail;
            from = y.from;
            whole = x.whole ∙ ap (λ u. x.used ++ u) y.whole ∙ sym (append_assoc x.used y.used y.tail);
            related = y.related;
            tail_bytes = y.tail_bytes;
            goes = y.goes;
          };
    }

-- The same where the first part's bytes are its value's encoding; and where its value is not used.
inverts_next : {A B : Type 0} {encoding : A → List ℕ} {P : A → Type 0} {S : List ℕ → B → Type 0} {p : Parser A} (f : A → Parser B)
    → Inverts p (Encoded encoding P) → ((a : A) → P a → Inverts (f a) (λ vs b. S (encoding a ++ vs) b)) → Inverts (p >>= f) S
inverts_next {S = S} f r s = inverts_bind f r (λ a us h. subst (λ u. Inverts (f a) (λ vs b. S (u ++ vs) b)) (sym h.same) (s a h.good))

inverts_then : {B : Type 0} {us : List ℕ} {P : Unit {0} → Type 0} {S : List ℕ → B → Type 0} {p : Parser (Unit {0})} {q : Parser B}
    → Inverts p (Encoded (λ _. us) P) → Inverts q (λ vs b. S (us ++ vs) b) → Inverts (p >> q) S
unfolding ◌>>◌ ◌>>=◌
inverts_then {q = q} r s = inverts_next (λ _. q) r (λ _ _. s)

not_ended : {c at : ℕ} {rest : List ℕ} {place : ℕ} → refused c at ≡ ended rest place → ⊥
not_ended e = let z : ◌≡◌ {A = ℕ} 0 1 = cc in omega arith

-- A test that did not refuse holds.
inverts_test : {B : Type 0} {S : List ℕ → B → Type 0} {q : Parser B} (b : Bool) (c : ℕ) → (b ≡ true → Inverts q S) → Inverts (ensure b c >> q) S
unfolding ensure ◌>>◌ run left outcome
inverts_test true c s = record { invert = λ k xs at rest place h e. (s refl).invert k xs at rest place h e }
inverts_test false c s = record { invert = λ k xs at rest place h e. absurd (not_ended e) }

inverts_ensure : {S : List ℕ → Unit {0} → Type 0} (b : Bool) (c : ℕ) → (b ≡ true → S [] tt) → Inverts (ensure b c) S
unfolding ◌>>◌ pure
inverts_ensure b c s = inverts_test b c (λ t. inverts_pure tt (s t))

-- Bytes of a length.
pub record Taken (w : ℕ) (bs : List ℕ) : Type 0 where
  pub size : length bs ≡ w
  pub all : Bytes bs

inverts_bytes : (w : ℕ) → Inverts (bytes w) (Encoded (λ bs. bs) (Taken w))
unfolding bytes run outcome
inverts_bytes w = record { invert = λ k xs at rest place h e. by k xs at rest place h e (leb w (length xs)) refl }
  where
    by : (k : List ℕ → Process) (xs : List ℕ) (at : ℕ) (rest : List ℕ) (place : ℕ) → Bytes xs
        → run (need w k) xs at ≡ ended rest place → (b : Bool) → leb w (length xs) ≡ b → Split (Encoded (λ bs. bs) (Taken w)) k xs rest place
    by k xs at rest place h e false t = let z : ◌≡◌ {A = ℕ} 0 1 = cc (e, left-few w k xs at (leb-false w (length xs) t)) in absurd (omega arith)
    by k xs at rest place h e true t =
        let fits : w ≤ length xs = leb-true w (length xs) t in
        record {
          value = take w xs;
          used = take w xs;
          tail = drop w xs;
          from = at + w;
          whole = sym (take-append-drop w xs);
          related = record { same = refl; good = record { size = omega (arith, length-take w xs); all = take-bytes h w } };
          tail_bytes = drop-bytes h w;
          goes = rw (left_enough w k xs at fits) at e;
        }

-- c values, each with the property P.
pub record AllOf {A : Type 0} (c : ℕ) (d : A) (P : A → Type 0) (vs : List A) : Type 0 where
  pub count : length vs ≡ c
  pub each : (t : ℕ) → t < c → P (get_or vs t d)

all_more : {A : Type 0} {c : ℕ} {d a : A} {P : A → Type 0} {vs : List A} → P a → AllOf c d P vs → AllOf (suc c) d P (a ∷ vs)
all_more {A} {c} {d} {a} {P} {vs} h g = record { count = ap suc g.count; each = each }
  where
    each : (t : ℕ) → t < suc c → P (get_or (a ∷ vs) t d)
    each zero l = h
    each (suc t) l = g.each t (omega arith)

inverts_many : {A : Type 0} {encoding : A → List ℕ} {P : A → Type 0} {p : Parser A} (d : A) (c : ℕ) → Inverts p (Encoded encoding P)
    → Inverts (many c p) (Encoded (λ vs. joined (map encoding vs)) (AllOf c d P))
unfolding many joined
inverts_many d zero r = inverts_pure [] (record { same = refl; good = record { count = refl; each = λ t h. absurd (omega arith) } })
inverts_many {encoding = encoding} d (suc c) r =
    inverts_next _ r (λ a h. inverts_next _ (inverts_many d c r) (λ vs g. inverts_pure (a ∷ vs)
    (record { same = ap (λ u. encoding a ++ u) (append-nil (joined (map encoding vs))); good = all_more h g })))

inverts_count : (c : ℕ) → Inverts (count c) (Encoded (λ _. le 2 c) Any)
unfolding count
inverts_count c =
    inverts_next _ (inverts_bytes 2) (λ two h. inverts_ensure (eqb (num two) c) count_differs (λ t.
    record { same = append-nil two ∙ taken-number h.size h.all ∙ ap (le 2) (eqb-true (num two) c t); good = tt }))

inverts_number : Inverts number (Encoded (le 4) (λ v. v < modulus))
unfolding number
inverts_number =
    inverts_next _ (inverts_bytes 4) (λ four h. inverts_test (ltb (num four) modulus) not_below_modulus (λ t.
    inverts_pure (num four) (record { same = append-nil four ∙ taken-number h.size h.all; good = ltb-true (num four) modulus t })))

inverts_digests : (c : ℕ) → Inverts (many c (bytes 32)) (Encoded joined (AllOf c [] IsDigest))
inverts_digests c =
    weaken (inverts_many [] c (inverts_bytes 32)) (λ us ds h.
    record {
      same = rw map-id at h.same;
      good = record {
        count = h.good.count;
        each = λ i l.
            let d = h.good.each i l in
            record { size = d.size; below = λ u b. bytes_below d.all u (omega (arith, d.size)) };
      };
    })

-- The bytes us are those of openings whose chain holds.
pub record Walked (hash : List ℕ → Digest) (p : Params) (final : List ℕ) (j m : ℕ) (e : Expected) (s : Digest) (roots : List Digest) (us : List ℕ)
    : Type 0 where
  pub openings : List Opening
  pub bytes : us ≡ query_bytes openings
  pub chain : Chain hash p final j m e s roots openings

-- The bytes us are those of c queries, from query i on, whose chains hold: the t-th of them is query l = i + t.
pub record Asked (hash : List ℕ → Digest) (p : Params) (final : List ℕ) (drawing s : Digest) (roots : List Digest) (c i : ℕ) (us : List ℕ)
    : Type 0 where
  pub queries : List (List Opening)
  pub count : length queries ≡ c
  pub bytes : us ≡ joined (map query_bytes queries)
  pub chains : (t l : ℕ) → l ≡ i + t → t < c → Chain hash p final 0 (draw hash drawing (index_bits p) l) anything s roots (get_or queries t [])

module _ (hash : List ℕ → Digest) (p : Params) where
  inverts_walk : (final : List ℕ) (j m : ℕ) (e : Expected) (s : Digest) (roots : List Digest)
      → Inverts (walk hash p final j m e s roots) (λ us _. Walked hash p final j m e s roots us)
  unfolding walk query_bytes opening_bytes joined words
  inverts_walk final j m e s [] = inverts_ensure _ misses_final_polynomial (λ t. record { openings = []; bytes = refl; chain = end t })
  inverts_walk final j m e s (root ∷ roots) =
      inverts_next _ (inverts_many 0 (values_per_leaf p) inverts_number) (λ values hv. inverts_test _ not_the_folded_value (λ met.
      inverts_next _ (inverts_digests (height p j)) (λ siblings h. inverts_test _ path_misses_root (λ met-root.
      weaken (inverts_walk final (suc j) (m % leaf_count p j) _ (absorb hash s root) roots) (λ us _ rest.
      let o : Opening = record { values = values; siblings = siblings } in
      let form : IsOpening p j o = record { value_count = hv.count; value_below = hv.each; sibling_count = h.count; sibling = h.each } in
      record {
        openings = o ∷ rest.openings;
        bytes = rw rest.bytes (simp append_assoc);
        chain = layer form met (same-equal _ root met-root) rest.chain;
      })))))

  inverts_queries : (final : List ℕ) (drawing s : Digest) (roots : List Digest) (c i : ℕ)
      → Inverts (queries hash p c i final drawing s roots) (λ us _. Asked hash p final drawing s roots c i us)
  unfolding queries joined ◌>>◌ ◌>>=◌
  inverts_queries final drawing s roots zero i =
      inverts_pure tt (record { queries = []; count = refl; bytes = refl; chains = λ t l e h. absurd (omega arith) })
  inverts_queries final drawing s roots (suc c) i =
      inverts_bind (λ _. queries hash p c (suc i) final drawing s roots)
      (inverts_walk final 0 (draw hash drawing (index_bits p) i) anything s roots) (λ _ us query.
      weaken (inverts_queries final drawing s roots c (suc i)) (λ vs _ rest.
      record {
        queries = query.openings ∷ rest.queries;
        count = ap suc rest.count;
        bytes = ap₂ (λ u v. u ++ v) query.bytes rest.bytes;
        chains = first query rest;
      }))
    where
      first : {us vs : List ℕ} (query : Walked hash p final 0 (draw hash drawing (index_bits p) i) anything s roots us)
          (rest : Asked hash p final drawing s roots c (suc i) vs) (t l : ℕ) → l ≡ i + t → t < suc c
          → Chain hash p final 0 (draw hash drawing (index_bits p) l) anything s roots (get_or (query.openings ∷ rest.queries) t [])
      first query rest zero l e h = let same : l ≡ i = omega arith in rw same query.chain
      first query rest (suc t) l e h = rest.chains t l (omega arith) (omega arith)

  pub inverts_sections : (context : List ℕ) → Inverts (sections hash p (start hash (header p) context)) (λ us _. Accepted hash p context us)
  unfolding sections encode drawn_leaf words
  inverts_sections context =
      inverts_then (inverts_count header_size) (inverts_next _ (inverts_bytes header_size) (λ parameters _. inverts_test _ parameters_differ (λ same.
      inverts_then (inverts_count p.k) (inverts_next _ (inverts_digests p.k) (λ roots hr.
      inverts_then (inverts_count (final_count p)) (inverts_next _ (inverts_many 0 (final_count p) inverts_number) (λ final hf.
      inverts_then (inverts_count p.q) (weaken (inverts_queries final _ (start hash (header p) context) roots p.q 0) (λ us _ asked.
      let proof : Proof = record { roots = roots; final = final; queries = asked.queries } in
      let chains : (i : ℕ) → i < p.q → QueryChain hash p context proof i = λ i h. asked.chains i i (omega arith) h in
      record {
        proof = proof;
        layout = record {
          root_count = hr.count;
          root_digest = hr.each;
          final_count_lem = hf.count;
          final_below = hf.each;
          query_count = asked.count;
          layer_count = chains_count hash p context proof hr.count chains;
          opening_form = chains_form hash p context proof hr.count chains;
        };
        bytes = rw (same-equal parameters (header p) same, asked.bytes);
        holds = chains_hold hash p context proof hr.count chains;
      })))))))))
