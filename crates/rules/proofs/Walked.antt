-- The layers of a query as steps: what the judgement's walk holds at layer j is what the table speaks of. Assumes nothing.
use Prim.Native.Nat.{ℕ, zero, suc, ◌+◌, ◌%◌, ◌≤◌, ◌<◌}
use mathlib.Core.Bool.{Bool, true, false}
use mathlib.Core.List.{List, []}
use mathlib.Core.Path.{◌≡◌, refl, ap, sym, ◌∙◌, subst}
use native.Mathlib.Omega.{arith}
use lib.Dec.{ltb}
use borrow.Author.Tests.{ltb-true, ltb-false}
use lib.ListN.{length, get_or, take, drop, drop_of_length-le}
use lib.Seq.{drop-cons, take-suc}
use Rattle.answer.specs.Table.{not_below_modulus, not_the_folded_value, path_misses_root, misses_final_polynomial}
use Rattle.params.specs.declared.Params.{Params}
use Rattle.params.specs.Parameters.{Valid, header, depth, values_per_leaf, height, leaf_count, opening_offset, value_offset}
use Rattle.params.proofs.LeafLaws.{leaf-next}
use Rattle.field.specs.Modular.{p as modulus}
use Rattle.message.specs.Message.{Digest}
use Rattle.domain.specs.Domain.{point}
use Rattle.merkle.specs.Merkle.{climb}
use Rattle.transcript.specs.Transcript.{start, absorb, absorbed}
use Rattle.transcript.proofs.TranscriptLaws.{absorbed_snoc}
use Rattle.fold.specs.Poly.{eval}
use Rattle.fold.specs.Fold.{Expected, anything, expected, fits}
use Rattle.fold.proofs.FoldLaws.{fits-folds, folds_fit, fits-anything}
use Rattle.fri.specs.Process.{Process, ◌>>=◌, ◌>>◌}
use Rattle.fri.specs.Encoding.{Opening, no_opening, Proof, root_at, opening_at}
use Rattle.fri.specs.Judge.{same_bytes, value_at, walk}
use Rattle.fri.specs.Accepted.{challenge_at, drawn_leaf, leaf_at, opened_leaf, point_at, FoldsTo}
use Rattle.message.proofs.Tabulate.{tabulate-length, tabulate_at}
use Rattle.fri.proofs.Same.{same-equal}
use Rattle.rules.specs.Rules.{opening_end, opening_in, proof_in}
use Rattle.rules.proofs.Faults.{Faults, One, Either, Some, Before, left, right, earlier, number_first, path_first}
use Rattle.rules.proofs.Steps.{Through, then, only, tested, in_a_row}
use Rattle.rules.proofs.Parts.{not_both, differ, numbers-taken, digests-taken}
use Rattle.rules.proofs.Offsets.{offset_next, offset_up, some_sibling}

module _ (hash : List ℕ → Digest) (p : Params) (context file : List ℕ) where
  abbrev proof : Proof
  proof = proof_in p file

  abbrev opened : ℕ → ℕ → Opening
  opened i j = opening_at proof i j

  -- The opening at i and j is the one that stands there.
  opening_there : (i j : ℕ) → i < p.q → j < p.k → opened i j ≡ opening_in p file i j
  unfolding proof_in
  opening_there i j h l =
      ap (λ os. get_or os j no_opening) (tabulate_at p.q _ i [] h) ∙ tabulate_at p.k (opening_in p file i) j no_opening l

  -- What the walk holds at layer j of query i: the index, what the value must meet, and the transcript before the layer's root.
  abbrev pub index : ℕ → ℕ → ℕ
  index i zero = drawn_leaf hash p context proof i
  index i (suc j) = leaf_at hash p context proof i j

  abbrev meets : ℕ → ℕ → Expected
  meets i zero = anything
  meets i (suc j) = expected (point_at hash p context proof i j) (challenge_at hash p context proof j) (opened i j).values

  abbrev state : ℕ → Digest
  state j = absorbed hash (start hash (header p) context) (take j proof.roots)

  -- The value v of layer j is not the one folded from the layer before.
  pub record Missed (i j v : ℕ) : Type 0 where
    pub layer : ℕ
    pub before : j ≡ suc layer
    pub misses : FoldsTo hash p context proof i layer v → ⊥

  met : (i j v : ℕ) → fits (meets i j) v ≡ true → Missed i j v → ⊥
  unfolding FoldsTo
  met i zero v t m = omega (arith, m.before)
  met i (suc j) v t m =
      let same : j ≡ m.layer = omega (arith, m.before) in
      m.misses (subst (λ l. FoldsTo hash p context proof i l v) same (fits-folds _ _ (opened i j).values _ t))

  missed : (i j v : ℕ) → fits (meets i j) v ≡ false → Missed i j v
  unfolding FoldsTo
  missed i zero v t = absurd (not_both (fits-anything v) t)
  missed i (suc j) v t = record { layer = j; before = refl; misses = λ h. not_both (folds_fit _ _ (opened i j).values _ h) t }

  -- From one layer to the next.
  index_leaf : (i j : ℕ) → index i j % leaf_count p j ≡ leaf_at hash p context proof i j
  unfolding leaf_at
  index_leaf i zero = refl
  index_leaf i (suc j) = leaf-next p j (drawn_leaf hash p context proof i)

  root_count : length proof.roots ≡ p.k
  unfolding proof_in
  root_count = tabulate-length p.k _

  state-next : (j : ℕ) → j < p.k → absorb hash (state j) (root_at proof j) ≡ state (suc j)
  state-next j h =
      sym (ap (absorbed hash (start hash (header p) context)) (take-suc proof.roots j [] (omega (arith, root_count)))
      ∙ absorbed_snoc hash (start hash (header p) context) (take j proof.roots) (root_at proof j))

  -- The value at the index in layer j, the final polynomial's after the last layer, and the root that the path gives.
  abbrev pub value_here : ℕ → ℕ → ℕ
  value_here i j = value_at p j (index i j) (opened i j).values

  abbrev pub final_at : ℕ → ℕ → ℕ
  final_at i j = eval proof.final (point p.n (depth p j) (index i j))

  abbrev climbed : ℕ → ℕ → Digest
  climbed i j = climb hash (opened_leaf hash p context proof i j) (leaf_at hash p context proof i j) (opened i j).siblings

  -- The faults of query i in layer j: a value's, the leaf's and the path's.
  abbrev pub ValueFaults : ℕ → ℕ → ℕ → Faults
  ValueFaults i j r = One (¬ (get_or (opened i j).values r 0 < modulus)) not_below_modulus (value_offset p i j r + 4)

  abbrev leaf_end : ℕ → ℕ → ℕ
  leaf_end i j = value_offset p i j (values_per_leaf p)

  abbrev pub LayerFaults : ℕ → ℕ → Faults
  LayerFaults i j =
      Either (Either (Some (ValueFaults i j) (values_per_leaf p)) (One (Missed i j (value_here i j)) not_the_folded_value (leaf_end i j)))
      (One (¬ (climbed i j ≡ root_at proof j)) path_misses_root (opening_end p i j))

  -- A value that is no number goes before one that is not the folded one.
  value_order : {c d : ℕ} (i j : ℕ) → Some (ValueFaults i j) (values_per_leaf p) c d → Before c d not_the_folded_value (leaf_end i j)
  value_order {c} {d} i j f = by (ltb d (leaf_end i j)) refl
    where
      by : (b : Bool) → ltb d (leaf_end i j) ≡ b → Before c d not_the_folded_value (leaf_end i j)
      by true t = earlier (ltb-true _ _ t)
      by false t = number_first f.fault.by_number refl (omega (arith, f.below, f.fault.by_place, ltb-false d (leaf_end i j) t))

  -- A layer is a step.
  abbrev walked : ℕ → ℕ → (Unit {0} → Process) → Process
  walked i j k = walk hash p proof.final j (index i j) (meets i j) (state j) (drop j proof.roots) k

  layer-step : Valid p → (i j : ℕ) (k : Unit {0} → Process) → i < p.q → j < p.k
      → Through file (LayerFaults i j) (opening_offset p i j) (opening_offset p i (suc j)) (walked i j k) (walked i (suc j) k)
  unfolding walk ◌>>=◌ ◌>>◌ opening_in opened_leaf point_at challenge_at opening_end
  layer-step v i j k h l =
      let long : j < length proof.roots = omega (arith, root_count) in
      let there : opening_in p file i j ≡ opened i j = sym (opening_there i j h l) in
      rw (offset_next p i j, drop-cons proof.roots j [] long, index_leaf i j, state-next j l)
      (then
      (tested _ _ (fits (meets i j) (value_here i j)) not_the_folded_value
      (omega arith) (met i j _) (missed i j _) (λ c d f. value_order i j f)
      (numbers-taken (values_per_leaf p) (opening_offset p i j) (leaf_end i j) (opened i j).values _ refl (ap (λ u. u.values) there)))
      (only
      (tested _ _ (same_bytes (climbed i j) (root_at proof j)) path_misses_root
      (omega (arith, some_sibling p v j l)) (λ t n. n (same-equal _ _ t)) (differ _ _) (λ c d f. absurd f)
      (digests-taken (height p j) (leaf_end i j) (opening_end p i j) (opened i j).siblings _ (omega arith) (ap (λ u. u.siblings) there)))))

  -- At the opening's end only the path is at fault.
  at_the_end : {c d : ℕ} (i j : ℕ) → 0 < height p j → opening_offset p i (suc j) ≤ d → LayerFaults i j c d
      → (c ≡ path_misses_root) × (d ≡ opening_offset p i (suc j))
  unfolding opening_end
  at_the_end i j g h (left (left f)) = absurd (omega (arith, f.below, f.fault.by_place, offset_next p i j))
  at_the_end i j g h (left (right f)) = absurd (omega (arith, f.by_place, offset_next p i j))
  at_the_end i j g h (right f) = (f.by_number, f.by_place ∙ sym (offset_next p i j))

  -- The faults of query i: those of its layers, then the final polynomial.
  abbrev pub QueryFaults : ℕ → Faults
  QueryFaults i =
      Either (Some (LayerFaults i) p.k)
      (One (Missed i p.k (final_at i p.k)) misses_final_polynomial (opening_offset p i p.k))

  -- A query is a step.
  pub query-step : Valid p → (i : ℕ) (k : Unit {0} → Process) → i < p.q
      → Through file (QueryFaults i) (opening_offset p i 0) (opening_offset p i p.k)
      (walk hash p proof.final 0 (drawn_leaf hash p context proof i) anything (start hash (header p) context) proof.roots k) (k tt)
  unfolding walk absorbed opening_end
  query-step v i k h =
      tested k _ _ misses_final_polynomial far (met i p.k _) (missed i p.k _) order
      (rw (drop_of_length-le proof.roots {i = p.k} (omega (arith, root_count)))
      at (in_a_row p.k (LayerFaults i) (opening_offset p i) (λ j. walked i j k) (λ j l. layer-step v i j k h l)))
    where
      far : opening_offset p i 0 < opening_offset p i p.k
      far = omega (arith, offset_next p i 0, offset_up p i 1 p.k v.k_low)

      order : (c d : ℕ) → Some (LayerFaults i) p.k c d → Before c d misses_final_polynomial (opening_offset p i p.k)
      order c d f = by (ltb d (opening_offset p i p.k)) refl
        where
          by : (b : Bool) → ltb d (opening_offset p i p.k) ≡ b → Before c d misses_final_polynomial (opening_offset p i p.k)
          by true t = earlier (ltb-true _ _ t)
          by false t =
              let late : opening_offset p i p.k ≤ d = ltb-false _ _ t in
              let up : opening_offset p i (suc f.index) ≤ opening_offset p i p.k = offset_up p i (suc f.index) p.k f.below in
              let last = at_the_end i f.index (some_sibling p v f.index f.below) (omega arith) f.fault in
              path_first last.0 refl (omega arith)
