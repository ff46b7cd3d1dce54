-- Laws on the state after several bytes: a run of bytes within one item, a stopped reader, and the loop over a piece.
-- Assumes nothing.
use Prim.Native.Nat.{ℕ, suc, ◌+◌, ◌≤◌, ◌<◌}
use native.Mathlib.Omega.{arith}
use native.Mathlib.Numerals.{add-one}
use mathlib.Core.Path.{◌≡◌, refl, sym, ◌∙◌, ap}
use mathlib.Core.Bool.{true, false}
use mathlib.Core.List.{List, [], ◌∷◌, ◌++◌, foldl, foldl-append}
use lib.ListN.{length, set}
use lib.Seq.{sets}
use borrow.Author.Tests.{lt-ltb, le-ltb}
use Rattle.message.specs.Message.{Digest}
use Rattle.reader_model.specs.declared.Stage.{Stage}
use Rattle.reader_model.specs.declared.Reader.{Reader}
use Rattle.reader_model.specs.State.{item_length, with_core, with_item}
use Rattle.reader_model.specs.Items.{advanced}
use Rattle.reader_model.specs.Model.{stored, step, fed, ends_inside, filled_item}
use Rattle.reader_model.proofs.Choice.{taken, left}

-- A piece that ends inside the item, and one that does not.
pub filled_inside : (stage : Stage) (fill : ℕ) (item bytes : List ℕ) → ends_inside stage fill bytes ≡ true → sets item fill bytes ≡ filled_item stage fill item bytes
unfolding filled_item
filled_inside stage fill item bytes inside = taken _ inside

pub filled_not : (stage : Stage) (fill : ℕ) (item bytes : List ℕ) → ends_inside stage fill bytes ≡ false → item ≡ filled_item stage fill item bytes
unfolding filled_item
filled_not stage fill item bytes outside = left _ outside

-- The state with another buffer and fill, and with a run of bytes of the current item.
abbrev pub filled : Reader → List ℕ → ℕ → Reader
filled r item fill = with_core r (with_item r.core item fill)

abbrev pub run : Reader → List ℕ → Reader
run r bs = filled r (sets r.core.item r.core.fill bs) (r.core.fill + length bs)

run_cons : (r : Reader) (b : ℕ) (bs : List ℕ) → run (stored r b) bs ≡ run r (b ∷ bs)
run_cons r b bs =
    ap (λ (k : ℕ). filled r (sets (set r.core.item r.core.fill b) k bs) (r.core.fill + 1 + length bs)) (add-one r.core.fill)
    ∙ ap (λ (k : ℕ). filled r (sets (set r.core.item r.core.fill b) (suc r.core.fill) bs) k) (omega arith)

module _ (hash : List ℕ → Digest) where
  -- One byte: within the item, at its end, and past it.
  step-more : (r : Reader) (b : ℕ) → r.core.fill + 1 < item_length r.core.stage → step hash r b ≡ stored r b
  unfolding step
  step-more r b h =
      let begun : r.core.fill < item_length r.core.stage = omega arith in
      sym (taken _ (lt-ltb _ _ h) ∙ taken _ (lt-ltb _ _ begun))

  step_last : (r : Reader) (b : ℕ) → r.core.fill + 1 ≡ item_length r.core.stage → step hash r b ≡ advanced hash (stored r b)
  unfolding step
  step_last r b h =
      let begun : r.core.fill < item_length r.core.stage = omega arith in
      let last : item_length r.core.stage ≤ r.core.fill + 1 = omega arith in
      sym (left _ (le-ltb _ _ last) ∙ taken _ (lt-ltb _ _ begun))

  step-stopped : (r : Reader) (b : ℕ) → item_length r.core.stage ≤ r.core.fill → step hash r b ≡ r
  unfolding step
  step-stopped r b h = sym (left _ (le-ltb _ _ h))

  -- A run within the item, a run that ends it, and bytes of a stopped reader.
  run_more : (r : Reader) (bs : List ℕ) → r.core.fill + length bs < item_length r.core.stage → foldl (step hash) r bs ≡ run r bs
  run_more r [] h = ap (λ (k : ℕ). filled r r.core.item k) (omega arith)
  run_more r (b ∷ bs) h =
      rw (step-more r b (omega arith)) (run_more (stored r b) bs (omega arith) ∙ run_cons r b bs)

  -- A piece that ends inside the item.
  pub fed_inside : (r : Reader) (bytes : List ℕ) → r.core.fill + length bytes < item_length r.core.stage → run r bytes ≡ fed hash r bytes
  unfolding fed
  fed_inside r bytes h = sym (run_more r bytes h)

  run_last : (r : Reader) (b : ℕ) (bs : List ℕ) → r.core.fill + length (b ∷ bs) ≡ item_length r.core.stage → foldl (step hash) r (b ∷ bs) ≡ advanced hash (run r (b ∷ bs))
  run_last r b [] h =
      step_last r b (omega arith) ∙ ap (λ (k : ℕ). advanced hash (filled r (set r.core.item r.core.fill b) k)) (omega arith)
  run_last r b (b' ∷ bs) h =
      rw (step-more r b (omega arith)) (run_last (stored r b) b' bs (omega arith) ∙ ap (advanced hash) (run_cons r b (b' ∷ bs)))

  run-whole : (r : Reader) (bs : List ℕ) → 0 < length bs → r.core.fill + length bs ≡ item_length r.core.stage → foldl (step hash) r bs ≡ advanced hash (run r bs)
  run-whole r [] some h = absurd (omega arith)
  run-whole r (b ∷ bs) some h = run_last r b bs h

  stays : (r : Reader) (bs : List ℕ) → item_length r.core.stage ≤ r.core.fill → foldl (step hash) r bs ≡ r
  stays r [] h = refl
  stays r (b ∷ bs) h = rw (step-stopped r b h) (stays r bs h)

  -- The loop over a piece: a stopped reader is the answer, and so is any at the piece's end; a run of bytes at the piece's front goes on within the
  -- item, or ends it.
  pub fed-stopped : (r : Reader) (bytes : List ℕ) → item_length r.core.stage ≤ r.core.fill → fed hash r bytes ≡ r
  unfolding fed
  fed-stopped r bytes h = stays r bytes h

  pub fed_all : (r : Reader) (bytes : List ℕ) → length bytes ≡ 0 → fed hash r bytes ≡ r
  unfolding fed
  fed_all r [] h = refl
  fed_all r (b ∷ bs) h = absurd (omega arith)

  module _ (r : Reader) (bs after : List ℕ) {bytes item : List ℕ} (parts : bytes ≡ bs ++ after) (stores : item ≡ sets r.core.item r.core.fill bs) where
    pub fed-more : r.core.fill + length bs < item_length r.core.stage → fed hash r bytes ≡ fed hash (filled r item (r.core.fill + length bs)) after
    unfolding fed
    fed-more h = rw (parts, stores, foldl-append, run_more r bs h)

    pub fed_last : {x : Reader} → 0 < length bs → r.core.fill + length bs ≡ item_length r.core.stage
        → x ≡ advanced hash (filled r item (r.core.fill + length bs)) → fed hash r bytes ≡ fed hash x after
    unfolding fed
    fed_last some h e = rw (e, parts, stores, foldl-append, run-whole r bs some h)
