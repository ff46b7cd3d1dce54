-- A query as the chain that the judgement walks, and as facts of each layer by itself: the two say the same. Assumes nothing.
use Prim.Native.Nat.{ℕ, zero, suc, ◌+◌, ◌%◌, ◌<◌}
use mathlib.Core.Bool.{Bool, true, false}
use mathlib.Core.List.{List, [], ◌∷◌}
use mathlib.Core.Path.{◌≡◌, refl, ap, sym, ◌∙◌, subst}
use native.Mathlib.Omega.{arith}
use lib.Dec.{ltb}
use lib.ListN.{length, get_or, take, drop, drop_of_length-le}
use lib.Seq.{drop-cons}
use borrow.Author.Tests.{ltb-true, ltb-false}
use Rattle.params.specs.declared.Params.{Params}
use Rattle.params.specs.Parameters.{header, depth, leaf_count}
use Rattle.params.proofs.LeafLaws.{leaf_later}
use Rattle.message.specs.Message.{Digest}
use Rattle.domain.specs.Domain.{point}
use Rattle.merkle.specs.Merkle.{climb, leaf_digest}
use Rattle.transcript.specs.Transcript.{start, absorb, challenge, absorbed}
use Rattle.fold.specs.Poly.{eval}
use Rattle.fold.specs.Fold.{Expected, anything, expected, fits, FoldsFrom}
use Rattle.fold.proofs.FoldLaws.{fits-folds, folds_fit, fits-anything}
use Rattle.fri.specs.Encoding.{Opening, no_opening, Proof, opening_at, IsOpening, HasLayout}
use Rattle.fri.specs.Judge.{value_at}
use Rattle.fri.specs.Accepted.{challenge_at, drawn_leaf, leaf_at, opened_leaf, point_at, FoldsTo, next_value, Holds}

-- The value at index m of layer j, where os are the openings from layer j on: after the last layer the final polynomial's.
unfoldable pub reached : Params → List ℕ → ℕ → ℕ → List Opening → ℕ
reached p final j m [] = eval final (point p.n (depth p j) m)
reached p final j m (o ∷ os) = value_at p j m o.values

-- What holds of the opening o in layer j, at leaf m of a tree with this root: its form, its path, and that it folds to v.
pub record Layer (hash : List ℕ → Digest) (p : Params) (j m β : ℕ) (root : Digest) (o : Opening) (v : ℕ) : Type 0 where
  pub form : IsOpening p j o
  pub opens : climb hash (leaf_digest hash j o.values) m o.siblings ≡ root
  pub folds : FoldsFrom (point p.n (depth p j) m) β o.values v

-- What is expected after the opening o in layer j, at leaf m, where s is the transcript after the layer's root.
abbrev after : (List ℕ → Digest) → Params → ℕ → ℕ → Digest → Opening → Expected
after hash p j m s o = expected (point p.n (depth p j) m) (challenge hash s) o.values

-- The chain from layer j on, as the judgement walks it: the value at index m meets what is expected, the leaf opens to the root, and the leaf is
-- the index in the next layer.
pub data Chain (hash : List ℕ → Digest) (p : Params) (final : List ℕ) : ℕ → ℕ → Expected → Digest → List Digest → List Opening → Type 0 where
  end : {j m : ℕ} {e : Expected} {s : Digest} → fits e (eval final (point p.n (depth p j) m)) ≡ true → Chain hash p final j m e s [] []
  layer : {j m : ℕ} {e : Expected} {s root : Digest} {roots : List Digest} {o : Opening} {os : List Opening}
      → IsOpening p j o
      → fits e (value_at p j m o.values) ≡ true
      → climb hash (leaf_digest hash j o.values) (m % leaf_count p j) o.siblings ≡ root
      → Chain hash p final (suc j) (m % leaf_count p j) (after hash p j (m % leaf_count p j) (absorb hash s root) o) (absorb hash s root) roots os
      → Chain hash p final j m e s (root ∷ roots) (o ∷ os)

-- Layer l of a query with index m: its leaf is m % leaf_count, its challenge comes from the transcript s and the roots up to the t-th.
abbrev LayerAt : (List ℕ → Digest) → Params → List ℕ → ℕ → Digest → List Digest → List Opening → ℕ → ℕ → Type 0
LayerAt hash p final m s roots os t l =
    Layer hash p l (m % leaf_count p l) (challenge hash (absorbed hash s (take (suc t) roots))) (get_or roots t []) (get_or os t no_opening)
    (reached p final (suc l) (m % leaf_count p l) (drop (suc t) os))

-- The same as the chain, each layer by itself: the t-th of them is layer l = j + t.
pub record Layers (hash : List ℕ → Digest) (p : Params) (final : List ℕ) (j m : ℕ) (e : Expected) (s : Digest) (roots : List Digest)
    (os : List Opening) : Type 0 where
  pub count : length os ≡ length roots
  pub meets : fits e (reached p final j m os) ≡ true
  pub layer : (t l : ℕ) → l ≡ j + t → t < length roots → LayerAt hash p final m s roots os t l

module _ (hash : List ℕ → Digest) (p : Params) (final : List ℕ) where
  -- A layer's facts at a leaf that is given in two ways.
  same-leaf : {l m x β : ℕ} {root : Digest} {o : Opening} (os : List Opening) → m ≡ x
      → Layer hash p l m β root o (reached p final (suc l) m os) → Layer hash p l x β root o (reached p final (suc l) x os)
  same-leaf {l} {m} {x} {β} {root} {o} os e h = subst (λ u. Layer hash p l u β root o (reached p final (suc l) u os)) e h

  -- The value in the chain's next layer.
  next_fits : {j m : ℕ} {e : Expected} {s : Digest} {roots : List Digest} {os : List Opening}
      → Chain hash p final j m e s roots os → fits e (reached p final j m os) ≡ true
  unfolding reached
  next_fits (end h) = h
  next_fits (layer form h opens rest) = h

  -- The t-th layer of a chain: the first one's facts stand in the chain, those of the others in its rest.
  chain_layer : {j m : ℕ} {e : Expected} {s : Digest} {roots : List Digest} {os : List Opening}
      → Chain hash p final j m e s roots os → (t l : ℕ) → l ≡ j + t → t < length roots → LayerAt hash p final m s roots os t l
  unfolding absorbed
  chain_layer (end h) t l i b = absurd (omega arith)
  chain_layer (layer {j} {m} {e} {s} {root} {roots} {o} {os} form h opens rest) zero l i b =
      subst (LayerAt hash p final m s (root ∷ roots) (o ∷ os) 0) (omega arith)
      (record { form = form; opens = opens; folds = fits-folds _ _ o.values _ (next_fits rest) })
  chain_layer (layer {j} {m} {e} {s} {root} {roots} {o} {os} form h opens rest) (suc t) l i b =
      same-leaf (drop (suc t) os) (leaf_later p j l m (omega arith)) (chain_layer rest t l (omega arith) (omega arith))

  chain_count : {j m : ℕ} {e : Expected} {s : Digest} {roots : List Digest} {os : List Opening}
      → Chain hash p final j m e s roots os → length os ≡ length roots
  chain_count (end h) = refl
  chain_count (layer form h opens rest) = ap suc (chain_count rest)

  pub chain_layers : {j m : ℕ} {e : Expected} {s : Digest} {roots : List Digest} {os : List Opening}
      → Chain hash p final j m e s roots os → Layers hash p final j m e s roots os
  chain_layers c = record { count = chain_count c; meets = next_fits c; layer = chain_layer c }

  pub layers_chain : {j m : ℕ} {e : Expected} {s : Digest} (roots : List Digest) (os : List Opening)
      → Layers hash p final j m e s roots os → Chain hash p final j m e s roots os
  unfolding reached absorbed
  layers_chain [] [] h = end h.meets
  layers_chain [] (o ∷ os) h = absurd (omega (arith, h.count))
  layers_chain (root ∷ roots) [] h = absurd (omega (arith, h.count))
  layers_chain {j} {m} {e} {s} (root ∷ roots) (o ∷ os) h =
      let here = h.layer 0 j (omega arith) (omega arith) in
      layer here.form h.meets here.opens
      (layers_chain {j = suc j} {e = after hash p j (m % leaf_count p j) (absorb hash s root) o} roots os
      (record {
        count = omega (arith, h.count);
        meets = folds_fit _ _ o.values _ here.folds;
        layer = λ t l i b. same-leaf (drop (suc t) os) (sym (leaf_later p j l m (omega arith))) (h.layer (suc t) l (omega arith) (omega arith));
      }))

module _ (hash : List ℕ → Digest) (p : Params) (context : List ℕ) (proof : Proof) where
  -- The openings of query i, the transcript before the roots, the query's chain, and its layers.
  abbrev openings : ℕ → List Opening
  openings i = get_or proof.queries i []

  abbrev before : Digest
  before = start hash (header p) context

  abbrev pub QueryChain : ℕ → Type 0
  QueryChain i = Chain hash p proof.final 0 (drawn_leaf hash p context proof i) anything before proof.roots (openings i)

  abbrev QueryLayers : ℕ → Type 0
  QueryLayers i = Layers hash p proof.final 0 (drawn_leaf hash p context proof i) anything before proof.roots (openings i)

  -- The value after layer j: the next layer's, or the final polynomial's.
  abbrev value_after : ℕ → ℕ → ℕ
  value_after i j = reached p proof.final (suc j) (leaf_at hash p context proof i j) (drop (suc j) (openings i))

  -- It is the specification's: in the layers before the last, and after the last.
  after_layer : (i j : ℕ) → length (openings i) ≡ p.k → suc j < p.k → value_after i j ≡ next_value hash p context proof i j
  unfolding reached next_value
  after_layer i j e h = rw (drop-cons (openings i) (suc j) no_opening (omega arith))

  after_last : (i j : ℕ) → length (openings i) ≡ p.k → suc j ≡ p.k
      → value_after i j ≡ eval proof.final (point p.n (depth p (suc j)) (leaf_at hash p context proof i j))
  unfolding reached
  after_last i j e h = rw (drop_of_length-le (openings i) {i = suc j} (omega arith))

  -- Where every query's chain holds, every query has an opening of the right form in each layer, and the proof holds.
  module _ (roots : length proof.roots ≡ p.k) (chains : (i : ℕ) → i < p.q → QueryChain i) where
    layers : (i : ℕ) → i < p.q → QueryLayers i
    layers i h = chain_layers hash p proof.final (chains i h)

    pub chains_count : (i : ℕ) → i < p.q → length (openings i) ≡ p.k
    chains_count i h = (layers i h).count ∙ roots

    pub chains_form : (i j : ℕ) → i < p.q → j < p.k → IsOpening p j (opening_at proof i j)
    chains_form i j h l = ((layers i h).layer j j (omega arith) (omega arith)).form

    folds_after : (i j : ℕ) → i < p.q → j < p.k → FoldsTo hash p context proof i j (value_after i j)
    unfolding challenge_at leaf_at point_at FoldsTo
    folds_after i j h l = ((layers i h).layer j j (omega arith) (omega arith)).folds

    pub chains_hold : Holds hash p context proof
    unfolding leaf_at opened_leaf
    chains_hold =
        record {
          opens = λ i j h l. ((layers i h).layer j j (omega arith) (omega arith)).opens;
          folds = λ i j h l. subst (FoldsTo hash p context proof i j) (after_layer i j (chains_count i h) l) (folds_after i j h (omega arith));
          ends = λ i j h e. subst (FoldsTo hash p context proof i j) (after_last i j (chains_count i h) e) (folds_after i j h (omega arith));
        }

  -- Where a proof of the right form holds, every query's chain does.
  module _ (layout : HasLayout p proof) (holds : Holds hash p context proof) where
    holds_after : (i j : ℕ) → i < p.q → j < p.k → (b : Bool) → ltb (suc j) p.k ≡ b → FoldsTo hash p context proof i j (value_after i j)
    holds_after i j h l true t =
        let more : suc j < p.k = ltb-true (suc j) p.k t in
        subst (FoldsTo hash p context proof i j) (sym (after_layer i j (layout.layer_count i h) more)) (holds.folds i j h more)
    holds_after i j h l false t =
        let last : suc j ≡ p.k = omega (arith, ltb-false (suc j) p.k t) in
        subst (FoldsTo hash p context proof i j) (sym (after_last i j (layout.layer_count i h) last)) (holds.ends i j h last)

    pub holds_chain : (i : ℕ) → i < p.q → QueryChain i
    unfolding challenge_at leaf_at opened_leaf point_at FoldsTo
    holds_chain i h =
        layers_chain hash p proof.final proof.roots (openings i)
        (record {
          count = layout.layer_count i h ∙ sym layout.root_count;
          meets = fits-anything _;
          layer = λ t l e b.
              let within : t < p.k = omega (arith, layout.root_count) in
              subst (LayerAt hash p proof.final (drawn_leaf hash p context proof i) before proof.roots (openings i) t) (omega arith)
              (record {
                form = layout.opening_form i t h within;
                opens = holds.opens i t h within;
                folds = holds_after i t h within (ltb (suc t) p.k) refl;
              });
        })
