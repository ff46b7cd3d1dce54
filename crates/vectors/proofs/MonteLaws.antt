-- Laws of the Monte test's digests.
-- Assumes nothing.
use mathlib.Core.Path.{◌≡◌, refl, ap}
use mathlib.Core.List.{List, [], ◌∷◌, append-nil}
use Prim.Native.Nat.{ℕ, suc, ◌+◌, ◌≤◌}
use native.Mathlib.Numerals.{add-one}
use lib.ListN.{length, get_or}
use Rattle.std.specs.List.{flat_map}
use Rattle.sha256.specs.Hash.{hashed}
use Rattle.sha256.specs.declared.Hashed.{Hashed}
use Rattle.sha256.proofs.HashLaws.{hashed-short}
use Rattle.vectors.specs.Monte.{digest_at, checkpoint}

-- the last three digests after n turns
abbrev pub last_three : List ℕ → ℕ → List (List ℕ)
last_three seed n = digest_at seed n ∷ digest_at seed (suc n) ∷ digest_at seed (suc (suc n)) ∷ []

pub last_none : (seed : List ℕ) → seed ∷ seed ∷ seed ∷ [] ≡ last_three seed 0
unfolding digest_at
last_none seed = refl

pub last_more : (seed : List ℕ) (n : ℕ) {m : List ℕ} {last : List (List ℕ)} {x : Hashed} → last ≡ last_three seed n → m ≡ flat_map (λ d. d) last → x ≡ hashed m
    → length m ≤ 4096 → get_or last 1 [] ∷ get_or last 2 [] ∷ x.digest ∷ [] ≡ last_three seed (n + 1)
unfolding digest_at
last_more seed n {m = m} h joins answer short = rw (add-one, answer, hashed-short m short, joins, h, append-nil) refl

pub last_all : (seed : List ℕ) {n : ℕ} {last : List (List ℕ)} → last ≡ last_three seed n → n ≡ 1000 → get_or last 2 [] ≡ checkpoint seed
unfolding checkpoint
last_all seed h e = rw h (ap (λ (k : ℕ). digest_at seed (suc (suc k))) e)
