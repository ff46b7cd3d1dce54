-- Two inputs that agree up to some byte get equal answers up to it, before any end call. Assumes nothing.
use Prim.Native.Nat.{ℕ, ◌≤◌}
use mathlib.Core.List.{List, [], append-nil}
use mathlib.Core.Path.{◌≡◌, sym, ap, ◌∙◌}
use native.Mathlib.Omega.{arith}
use lib.ListN.{take}
use lib.Seq.{take-take}
use Rattle.calls.specs.Calls.{Call, Reader, Refuses}
use Rattle.calls.specs.Plain.{Table, after_piece}
use Rattle.calls.specs.Demand3.{PrefixRule, InPieces, Agree, to_piece}
use Rattle.calls.proofs.Decide.{Earliest, decide_some}
use Rattle.calls.proofs.Follows.{Follows, to_piece_lem, piece-refused, piece_repeats}

-- Inputs that agree up to d agree up to any e ≤ d.
agree_before : {d : ℕ} {in₁ in₂ : List ℕ} → Agree d in₁ in₂ → (e : ℕ) → e ≤ d → take e in₁ ≡ take e in₂
agree_before {d = d} {in₁ = in₁} {in₂ = in₂} g e h = sym (take-take e d in₁ h) ∙ ap (λ (l : List ℕ). take e l) g.same ∙ take-take e d in₂ h

module _ {S : Type 0} (t : Table) (r : Reader S) (f : Follows t r) where
  -- The last piece of some bytes gets the plain reader's answer for them.
  in_pieces : {bs xs : List ℕ} {cs : List Call} → InPieces bs cs xs → to_piece r cs xs ≡ after_piece t bs
  in_pieces {xs = xs} {cs = cs} g = to_piece_lem t r f cs xs g.no_end ∙ ap (after_piece t) g.bytes

  -- The earliest deciding byte is the same if it is one up to which they agree.
  earliest_shared : {d n e : ℕ} {in₁ in₂ : List ℕ} → Agree d in₁ in₂ → e ≤ d → Earliest t in₁ n e → Earliest t in₂ n e
  earliest_shared {e = e} g h w = record {
    low = w.low;
    high = omega (arith, g.long₂);
    decides = rw (agree_before g e h) at w.decides;
    none_before = λ i l u. rw (agree_before g i (omega arith)) at (w.none_before i l u);
  }

  refusal_shared : {d : ℕ} {in₁ in₂ : List ℕ} → Agree d in₁ in₂ → Refuses (after_piece t in₁) → (after_piece t in₁).place ≤ d
      → after_piece t in₂ ≡ after_piece t in₁
  refusal_shared {in₁ = in₁} {in₂ = in₂} g w h =
      rw append-nil at (piece_repeats t in₂ [] (after_piece t in₁)
      ((decide_some t in₂ _ _).1 (earliest_shared g h ((decide_some t in₁ _ _).0 (piece-refused t in₁ w)))))

  pub prefix_rule : PrefixRule r
  prefix_rule = record {
    equal = λ {e = e} g h i j. in_pieces i ∙ ap (after_piece t) (agree_before g e h) ∙ sym (in_pieces j);
    refusals = λ g i j w h. in_pieces j ∙ refusal_shared g (rw (in_pieces i) at w) (rw (in_pieces i) at h) ∙ sym (in_pieces i);
  }
