-- Arrays that are filled from the front, and the lists that fill the reader's tables: roots, challenges and coefficients. Assumes nothing.
use Prim.Native.Nat.{ℕ, suc, ◌+◌, ◌*◌, ◌<◌, ◌≤◌}
use mathlib.Core.List.{List, [], ◌∷◌, ◌++◌, append_assoc, append-nil}
use mathlib.Core.Path.{◌≡◌, refl, ap, sym, ◌∙◌}
use native.Mathlib.Omega.{arith}
use lib.ListN.{length, take, drop, set, get_or, length-set, length-append, take-append-drop}
use lib.Seq.{sets, length-sets, take-suc-set, sets-eq, take_at, get_or_at}
use Rattle.message.specs.Bytes.{joined, part}
use Rattle.message.specs.Message.{Digest}
use Rattle.message.proofs.Bytes.{Sized, joined_at}
use Rattle.transcript.specs.Transcript.{absorb, challenge, absorbed}

-- An array of this size begins with the list front. What stands after it does not matter.
pub record Filled (size : ℕ) (front array : List ℕ) : Type 0 where
  pub sized : length array ≡ size
  pub starts : take (length front) array ≡ front

module _ {size : ℕ} {front array : List ℕ} (f : Filled size front array) where
  pub filled_set : (i v : ℕ) → length front ≡ i → i < size → Filled size (front ++ v ∷ []) (set array i v)
  filled_set i v e h =
      let longer : length (front ++ v ∷ []) ≡ suc i = rw length-append (omega arith) in
      record {
        sized = length-set array i v ∙ f.sized;
        starts = rw (longer, take-suc-set array i v (omega arith), ← e, f.starts);
      }

  pub filled_sets : (i : ℕ) (vs : List ℕ) → length front ≡ i → i + length vs ≤ size → Filled size (front ++ vs) (sets array i vs)
  filled_sets i vs e h = record {
    sized = length-sets array i vs ∙ f.sized;
    starts =
        rw (sets-eq vs array i (omega arith), ← e, f.starts)
        (take_at (front ++ vs) (drop (length front + length vs) array) (length (front ++ vs)) refl);
  }

  pub filled_take : (i : ℕ) → length front ≡ i → take i array ≡ front
  filled_take i e = rw (← e) f.starts

  filled_whole : front ++ drop (length front) array ≡ array
  filled_whole = ap (λ u. u ++ drop (length front) array) (sym f.starts) ∙ take-append-drop (length front) array

-- An element, and a block of blocks of one size.
pub filled_at : {size : ℕ} {array : List ℕ} (before : List ℕ) (v : ℕ) (after : List ℕ) → Filled size (before ++ v ∷ after) array
    → (i : ℕ) → length before ≡ i → get_or array i 0 ≡ v
filled_at {array = array} before v after f i e =
    ap (λ u. get_or u i 0) (sym (filled_whole f) ∙ append_assoc before (v ∷ after) (drop (length (before ++ v ∷ after)) array))
    ∙ get_or_at before v (after ++ drop (length (before ++ v ∷ after)) array) 0 i e

pub filled_block : {size : ℕ} {array : List ℕ} {blocks : List (List ℕ)} → Filled size (joined blocks) array → Sized 32 blocks
    → (i : ℕ) → i < length blocks → take 32 (drop (32 * i) array) ≡ get_or blocks i []
unfolding part
filled_block {array = array} {blocks = blocks} f s i h =
    ap (λ u. take 32 (drop (32 * i) u)) (sym (filled_whole f)) ∙ joined_at s (drop (length (joined blocks)) array) i h

-- One root more.
pub sized_snoc : {roots : List Digest} (root : Digest) → Sized 32 roots → length root ≡ 32 → Sized 32 (roots ++ root ∷ [])
sized_snoc root Sized.none h = Sized.more h Sized.none
sized_snoc root (Sized.more e s) h = Sized.more e (sized_snoc root s h)

pub joined_snoc : (roots : List Digest) (root : Digest) → joined (roots ++ root ∷ []) ≡ joined roots ++ root
unfolding joined
joined_snoc [] root = append-nil root
joined_snoc (x ∷ roots) root = ap (λ u. x ++ u) (joined_snoc roots root) ∙ sym (append_assoc x (joined roots) root)

module _ (hash : List ℕ → Digest) where
  -- The challenges of layers with these roots, where s is the transcript before them.
  unfoldable pub challenges : Digest → List Digest → List ℕ
  challenges s [] = []
  challenges s (root ∷ roots) = challenge hash (absorb hash s root) ∷ challenges (absorb hash s root) roots

  pub absorbed_snoc : (s : Digest) (roots : List Digest) (root : Digest)
      → absorbed hash s (roots ++ root ∷ []) ≡ absorb hash (absorbed hash s roots) root
  unfolding absorbed
  absorbed_snoc s [] root = refl
  absorbed_snoc s (x ∷ roots) root = absorbed_snoc (absorb hash s x) roots root

  pub challenges_append : (s : Digest) (roots : List Digest) (root : Digest) (after : List Digest)
      → challenges s (roots ++ root ∷ after)
      ≡ challenges s roots ++ challenge hash (absorb hash (absorbed hash s roots) root) ∷ challenges (absorb hash (absorbed hash s roots) root) after
  unfolding absorbed challenges
  challenges_append s [] root after = refl
  challenges_append s (x ∷ roots) root after = ap (λ u. challenge hash (absorb hash s x) ∷ u) (challenges_append (absorb hash s x) roots root after)

  pub challenges_snoc : (s : Digest) (roots : List Digest) (root : Digest)
      → challenges s (roots ++ root ∷ []) ≡ challenges s roots ++ challenge hash (absorb hash (absorbed hash s roots) root) ∷ []
  unfolding challenges
  challenges_snoc s roots root = challenges_append s roots root []

  pub challenges_length : (s : Digest) (roots : List Digest) → length (challenges s roots) ≡ length roots
  unfolding challenges
  challenges_length s [] = refl
  challenges_length s (root ∷ roots) = ap suc (challenges_length (absorb hash s root) roots)
