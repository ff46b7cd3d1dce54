-- How evenly challenges and leaves are drawn, whatever the digest's other bytes are.
use Rattle.std.specs.Prelude.{ℕ, zero, suc, ◌+◌, ◌-◌, ◌^◌, ◌%◌, ◌/◌, ◌<◌, ◌≤◌, Bool, cond, ◌++◌, ◌≡◌, eqb, ltb}
use Rattle.field.specs.Modular.{p}
use Rattle.message.specs.Bytes.{le}
use Rattle.message.specs.Message.{Digest}
use Rattle.transcript.specs.Transcript.{challenge, draw}

-- How many of the numbers below n a test picks.
unfoldable pub how_many : (ℕ → Bool) → ℕ → ℕ
how_many picks zero = 0
how_many picks (suc n) = cond (picks n) 1 0 + how_many picks n

-- Whether a digest that begins with the 8 bytes of v makes c the challenge.
unfoldable pub draws_challenge : Digest → Digest → ℕ → ℕ → Bool
draws_challenge s rest c v = eqb (challenge (λ _. le 8 v ++ rest) s) c

-- Whether a digest that begins with the 4 bytes of v makes m the leaf of query i.
unfoldable pub draws_leaf : Digest → Digest → ℕ → ℕ → ℕ → ℕ → Bool
draws_leaf s rest bits i m v = eqb (draw (λ _. le 4 v ++ rest) s bits i) m

-- Of the 2^64 values of 8 bytes, 2^64 / p draw each number below p, and one more draws a number below 2^64 % p.
abbrev pub EvenChallenges : Type 0
EvenChallenges = (s rest : Digest) (c : ℕ) → c < p → how_many (draws_challenge s rest c) (2 ^ 64) ≡ 2 ^ 64 / p + cond (ltb c (2 ^ 64 % p)) 1 0

-- Of the 2^32 values of 4 bytes, equally many draw each leaf.
abbrev pub EvenLeaves : Type 0
EvenLeaves = (s rest : Digest) (bits i m : ℕ) → bits ≤ 32 → m < 2 ^ bits → how_many (draws_leaf s rest bits i m) (2 ^ 32) ≡ 2 ^ (32 - bits)
