-- The table's rules are the faults of the judgement's steps, and a byte after the end. Assumes nothing.
use Prim.Native.Nat.{ℕ, zero, suc, ◌+◌, ◌<◌}
use mathlib.Core.List.{List}
use mathlib.Core.Path.{◌≡◌, refl, ap, sym, ◌∙◌, subst}
use native.Mathlib.Omega.{arith}
use Rattle.answer.specs.Table.{not_the_folded_value, misses_final_polynomial, byte_after_the_end}
use Rattle.params.specs.declared.Params.{Params}
use Rattle.params.specs.Parameters.{values_per_leaf, opening_offset, value_offset, file_length}
use Rattle.message.specs.Message.{Digest}
use Rattle.fri.specs.Encoding.{Proof}
use Rattle.fri.specs.Accepted.{FoldsTo, next_value}
use Rattle.rules.specs.Rules.{proof_in, Rule, count_1, count_2, count_3, count_4, section_1, coefficient, value, folded_value, path, final_value, after_the_end}
use Rattle.rules.proofs.Faults.{Faults, One, Either, left, right, one, from_one}
use Rattle.rules.proofs.Offsets.{offset_next}
use Rattle.rules.proofs.Walked.{value_here, final_at, Missed, LayerFaults, QueryFaults}
use Rattle.rules.proofs.Sections.{AllFaults}

module _ (hash : List ℕ → Digest) (p : Params) (context file : List ℕ) where
  abbrev proof : Proof
  proof = proof_in p file

  -- A byte after the end is a fault too.
  abbrev pub TableFaults : Faults
  TableFaults = Either (AllFaults hash p context file) (One (Unit {0}) byte_after_the_end (file_length p + 1))

  in_query : {c d : ℕ} (i : ℕ) → i < p.q → QueryFaults hash p context file i c d → TableFaults c d
  in_query i h f = left (right (right (right (right (right (right (record { index = i; below = h; fault = f })))))))

  in_layer : {c d : ℕ} (i j : ℕ) → i < p.q → j < p.k → LayerFaults hash p context file i j c d → TableFaults c d
  in_layer i j h l f = in_query i h (left (record { index = j; below = l; fault = f }))

  pub rule_fault : {c d : ℕ} → Rule hash p context file c d → TableFaults c d
  unfolding next_value
  rule_fault (count_1 h) = left (left (one h))
  rule_fault (section_1 h) = left (right (left (one h)))
  rule_fault (count_2 h) = left (right (right (left (one h))))
  rule_fault (count_3 h) = left (right (right (right (left (one h)))))
  rule_fault (coefficient i b h) = left (right (right (right (right (left (record { index = i; below = omega arith; fault = one h }))))))
  rule_fault (count_4 h) = left (right (right (right (right (right (left (one h)))))))
  rule_fault (value i j r b l e h) = in_layer i j b l (left (left (record { index = r; below = e; fault = one h })))
  rule_fault (folded_value i j b l h) = in_layer i (suc j) b l (left (right (one (record { layer = j; before = refl; misses = h }))))
  rule_fault (path i j b l h) = in_layer i j b l (right (one h))
  rule_fault (final_value i j b e h) =
      in_query i b
      (right
      (record {
        due = subst (λ l. Missed hash p context file i l (final_at hash p context file i l)) e (record { layer = j; before = refl; misses = h });
        by_number = refl;
        by_place = sym (offset_next p i j) ∙ ap (opening_offset p i) e;
      }))
  rule_fault after_the_end = right (one tt)

  abbrev Rules : Faults
  Rules = Rule hash p context file

  folded-rule : (i j : ℕ) → i < p.q → j < p.k
      → Missed hash p context file i j (value_here hash p context file i j) → Rules not_the_folded_value (value_offset p i j (values_per_leaf p))
  unfolding next_value
  folded-rule i zero b l m = absurd (omega (arith, m.before))
  folded-rule i (suc j) b l m =
      let same : m.layer ≡ j = omega (arith, m.before) in
      folded_value i j b l (subst (λ t. ¬ FoldsTo hash p context proof i t (next_value hash p context proof i j)) same m.misses)

  final-rule : (i : ℕ) → i < p.q → Missed hash p context file i p.k (final_at hash p context file i p.k)
      → Rules misses_final_polynomial (opening_offset p i p.k)
  final-rule i b m =
      subst (Rules misses_final_polynomial) (sym (offset_next p i m.layer) ∙ ap (opening_offset p i) (sym m.before))
      (final_value i m.layer b (sym m.before)
      (subst (λ l. ¬ FoldsTo hash p context proof i m.layer (final_at hash p context file i l)) m.before m.misses))

  layer-rule : {c d : ℕ} (i j : ℕ) → i < p.q → j < p.k → LayerFaults hash p context file i j c d → Rules c d
  layer-rule i j b l (left (left f)) = from_one Rules (value i j f.index b l f.below) f.fault
  layer-rule i j b l (left (right f)) = from_one Rules (folded-rule i j b l) f
  layer-rule i j b l (right f) = from_one Rules (path i j b l) f

  query-rule : {c d : ℕ} (i : ℕ) → i < p.q → QueryFaults hash p context file i c d → Rules c d
  query-rule i b (left f) = layer-rule i f.index b f.below f.fault
  query-rule i b (right f) = from_one Rules (final-rule i b) f

  pub fault_rule : {c d : ℕ} → TableFaults c d → Rule hash p context file c d
  fault_rule (left (left f)) = from_one Rules count_1 f
  fault_rule (left (right (left f))) = from_one Rules section_1 f
  fault_rule (left (right (right (left f)))) = from_one Rules count_2 f
  fault_rule (left (right (right (right (left f))))) = from_one Rules count_3 f
  fault_rule (left (right (right (right (right (left f)))))) = from_one Rules (coefficient f.index (omega (arith, f.below))) f.fault
  fault_rule (left (right (right (right (right (right (left f))))))) = from_one Rules count_4 f
  fault_rule (left (right (right (right (right (right (right f))))))) = query-rule f.index f.below f.fault
  fault_rule (right f) = from_one Rules (λ _. after_the_end) f
