-- What is put into a lent buffer: all of a part where it fits, else nothing.
use Rattle.std.specs.Prelude.{ℕ, ◌+◌, cond, List, leb, length, replicate}
use Rattle.std.proofs.lemmas.List.Edits.{sets}

-- The buffer with the part stored from index at on.
unfoldable pub put : {A : Type 0} → List A → ℕ → List A → List A
put buffer at part = cond (leb (at + length part) (length buffer)) (sets buffer at part) buffer

-- As many elements, each of them this value.
abbrev pub cleared_to : {A : Type 0} → A → List A → List A
cleared_to value buffer = replicate (length buffer) value

-- As many zeros.
abbrev pub cleared : List ℕ → List ℕ
cleared buffer = cleared_to 0 buffer
