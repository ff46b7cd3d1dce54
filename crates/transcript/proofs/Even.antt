-- Challenges and leaves are drawn evenly: remainders counted once, over any modulus.
-- Assumes nothing.
use Prim.Native.Nat.{ℕ, zero, suc, ◌+◌, ◌-◌, ◌*◌, ◌^◌, ◌%◌, ◌/◌, ◌<◌, ◌≤◌}
use mathlib.Core.Bool.{Bool, true, false, cond}
use mathlib.Core.Path.{◌≡◌, refl, ap, ap₂, ◌∙◌}
use native.Mathlib.Nat.{add-zero, add-suc, mul-zero, mul-suc, mul-add-mod_self_left, mod-eq_of_lt}
use native.Mathlib.Omega.{arith}
use lib.Dec.{eqb, ltb}
use lib.Pow.{pow-add}
use lib.Seq.{take_at}
use borrow.Author.Tests.{eqb-true, eqb-false, ltb-true, ltb-false, lt-ltb, le-ltb}
use Rattle.field.specs.Modular.{p}
use Rattle.message.specs.Bytes.{le, num}
use Rattle.message.specs.Message.{Digest}
use Rattle.message.proofs.Bytes.{le-length, num-le-below}
use Rattle.transcript.specs.Transcript.{challenge, draw}
use Rattle.transcript.specs.Even.{how_many, draws_challenge, draws_leaf, EvenChallenges, EvenLeaves}

-- Tests that agree pick equally many.
agree : (f g : ℕ → Bool) (n : ℕ) → ((v : ℕ) → v < n → f v ≡ g v) → how_many f n ≡ how_many g n
unfolding how_many
agree f g zero h = refl
agree f g (suc n) h = ap₂ (λ b u. cond b 1 0 + u) (h n (omega arith)) (agree f g n (λ v k. h v (omega arith)))

-- c is below r + 1 where it is r or below r.
below : (c r : ℕ) (t u : Bool) → eqb r c ≡ t → ltb c r ≡ u → cond t 1 0 + cond u 1 0 ≡ cond (ltb c (suc r)) 1 0
below c r true true e f = let a = eqb-true r c e in let b = ltb-true c r f in absurd (omega arith)
below c r true false e f = let a = eqb-true r c e in rw (lt-ltb c (suc r) (omega arith))
below c r false true e f = let b = ltb-true c r f in rw (lt-ltb c (suc r) (omega arith))
below c r false false e f = let a = eqb-false r c e in let b = ltb-false c r f in rw (le-ltb c (suc r) (omega arith))

module _ (m c : ℕ) (h : c < m) where
  abbrev is_c : ℕ → Bool
  is_c v = eqb (v % m) c

  further : (k : ℕ) → how_many is_c (m * k) ≡ k → (r : ℕ) → r ≤ m → how_many is_c (m * k + r) ≡ k + cond (ltb c r) 1 0
  unfolding how_many
  further k e zero l = rw (add-zero (m * k), le-ltb c 0 (omega arith), e) (omega arith)
  further k e (suc r) l =
      let more : cond (eqb r c) 1 0 + cond (ltb c r) 1 0 ≡ cond (ltb c (suc r)) 1 0 = below c r (eqb r c) (ltb c r) refl refl in
      rw (add-suc (m * k) r, mul-add-mod_self_left m k r, mod-eq_of_lt {n = r} {m = m} (omega arith), further k e r (omega arith)) (omega arith)

  -- Of the numbers below m·k, k have the remainder c.
  blocks : (k : ℕ) → how_many is_c (m * k) ≡ k
  unfolding how_many
  blocks zero = rw (mul-zero m)
  blocks (suc k) = rw (mul-suc m k, further k (blocks k) m (omega arith), lt-ltb c m h) (omega arith)

  -- Of the numbers below m·k + r, one more if c is below r.
  remainders : (k r : ℕ) → r ≤ m → how_many is_c (m * k + r) ≡ k + cond (ltb c r) 1 0
  remainders k r l = further k (blocks k) r l

-- The first bytes decide, as a number, and no other byte does.
challenged : (s rest : Digest) (c v : ℕ) → v < 2 ^ 64 → draws_challenge s rest c v ≡ eqb (v % p) c
unfolding draws_challenge challenge
challenged s rest c v h = ap (λ u. eqb (num u % p) c) (take_at (le 8 v) rest 8 (le-length 8 v)) ∙ ap (λ u. eqb (u % p) c) (num-le-below 8 v h)

opened : (s rest : Digest) (bits i m v : ℕ) → v < 2 ^ 32 → draws_leaf s rest bits i m v ≡ eqb (v % 2 ^ bits) m
unfolding draws_leaf draw
opened s rest bits i m v h = ap (λ u. eqb (num u % 2 ^ bits) m) (take_at (le 4 v) rest 4 (le-length 4 v)) ∙ ap (λ u. eqb (u % 2 ^ bits) m) (num-le-below 4 v h)

pub even_challenges : EvenChallenges
even_challenges s rest c h =
    agree (draws_challenge s rest c) (λ v. eqb (v % p) c) (2 ^ 64) (challenged s rest c) ∙ remainders p c h (2 ^ 64 / p) (2 ^ 64 % p) (omega arith)

pub even_leaves : EvenLeaves
even_leaves s rest bits i m b h =
    let sizes : 2 ^ 32 ≡ 2 ^ bits * 2 ^ (32 - bits) = ap (λ e. 2 ^ e) {x = 32} {y = bits + (32 - bits)} (omega arith) ∙ pow-add 2 bits (32 - bits) in
    agree (draws_leaf s rest bits i m) (λ v. eqb (v % 2 ^ bits) m) (2 ^ 32) (opened s rest bits i m)
    ∙ ap (how_many (λ v. eqb (v % 2 ^ bits) m)) sizes
    ∙ blocks (2 ^ bits) m h (2 ^ (32 - bits))
