-- What `hash` answers, and the facts of a digest that callers need: it has 32 elements, each below 256.
-- Assumes nothing.
use mathlib.Core.Path.{◌≡◌}
use mathlib.Core.List.{List}
use Prim.Native.Nat.{ℕ, ◌+◌, ◌/◌, ◌≤◌, ◌<◌}
use native.Mathlib.Nat.{mod-lt}
use native.Mathlib.Omega.{arith}
use borrow.Author.Tests.{le-leb, lt-leb}
use lib.Dec.{lit<}
use lib.ListN.{length, get_or, replicate}
use Rattle.answer.specs.declared.Answer.{Answer}
use Rattle.answer.specs.Table.{answered, open_so_far, message_too_long}
use Rattle.sha256.specs.declared.Hashed.{Hashed}
use Rattle.sha256.specs.Sha256.{pad, absorb, bytes_of, sha256}
use Rattle.sha256.specs.Hash.{hashed, digested}
use Rattle.sha256.proofs.Build.{length-build, get_d_build}
use Rattle.sha256.proofs.Padding.{length-pad}

-- the two answers
pub answer_short : (m : List ℕ) {h d : List ℕ} → length m ≤ 4096 → h ≡ absorb (pad m) ((length m + 72) / 64) → d ≡ bytes_of h
    → ◌≡◌ {A = Hashed} (record { answer = answered open_so_far 0; digest = d }) (hashed m)
unfolding hashed sha256
answer_short m l p q =
    let e : length (pad m) / 64 ≡ (length m + 72) / 64 = omega (arith, length-pad m) in
    rw (le-leb _ _ l, e, q, p)

pub answer_long : (m : List ℕ) {a : Answer} → 4096 < length m → a ≡ answered message_too_long 0
    → ◌≡◌ {A = Hashed} (record { answer = a; digest = replicate 32 0 }) (hashed m)
unfolding hashed
answer_long m l e = rw (lt-leb _ _ l, e)

-- what callers see of the answer
pub hashed-short : (m : List ℕ) → length m ≤ 4096 → hashed m ≡ digested m
unfolding hashed
hashed-short m h = rw (le-leb _ _ h)

-- a digest is 32 bytes
pub length-sha256 : (m : List ℕ) → length (sha256 m) ≡ 32
unfolding sha256 bytes_of
length-sha256 m = length-build _ 32

pub sha256-byte : (m : List ℕ) (i : ℕ) → i < 32 → get_or (sha256 m) i 0 < 256
unfolding sha256 bytes_of
sha256-byte m i h = rw (get_d_build _ 32 i h) (mod-lt _ (lit< tt))
