-- The transcript's messages as tagged messages, its numbers, and one root more.
-- Assumes nothing.
use Prim.Native.Nat.{ℕ, ◌+◌, ◌^◌, ◌%◌, ◌≤◌}
use mathlib.Core.List.{List, [], ◌∷◌, ◌++◌, append-nil}
use mathlib.Core.Path.{◌≡◌, refl, ap, ◌∙◌}
use native.Mathlib.Omega.{arith}
use lib.ListN.{length, take}
use Rattle.sha256.specs.Sha256.{sha256}
use Rattle.field.specs.Modular.{p}
use Rattle.message.specs.Bytes.{num, words}
use Rattle.message.specs.Message.{Digest, tagged_hash}
use Rattle.message.proofs.MessageLaws.{tagged_short, words-length}
use Rattle.transcript.specs.Transcript.{start, absorb, challenge, absorb_final, draw, absorbed}

pub tagged_start : (header context : List ℕ) {h s : List ℕ} → length header ≤ 32 → length context ≡ 32 → h ≡ header → s ≡ tagged_hash 0x10 h context
    → s ≡ start sha256 header context
unfolding start
tagged_start header context l k e f = f ∙ ap (λ (x : List ℕ). tagged_hash 0x10 x context) e ∙ tagged_short 0x10 header context (omega arith)

pub tagged_absorb : (s root : Digest) → length s ≡ 32 → length root ≡ 32 → tagged_hash 0x11 s root ≡ absorb sha256 s root
unfolding absorb
tagged_absorb s root h k = tagged_short 0x11 s root (omega arith)

pub tagged_finish : (s : Digest) (coefficients : List ℕ) → length s ≡ 32 → length coefficients ≤ 64 → tagged_hash 0x12 s (words coefficients) ≡ absorb_final sha256 s coefficients
unfolding absorb_final
tagged_finish s coefficients h k = tagged_short 0x12 s (words coefficients) (omega (arith, words-length coefficients))

pub tagged_challenge : {d : Digest} {v r : ℕ} (s : Digest) → length s ≡ 32 → d ≡ tagged_hash 0x13 s [] → v ≡ num (take 8 d) → r ≡ v % p → r ≡ challenge sha256 s
unfolding challenge
tagged_challenge s h e v r =
    let long : length s + 0 ≤ 288 = omega arith in
    rw (r, v, e, tagged_short 0x13 s [] long, append-nil s)

pub tagged_drawn : {d : Digest} {v r b : ℕ} (s : Digest) (bits i : ℕ) → length s ≡ 32 → d ≡ tagged_hash 0x14 s (i ∷ []) → v ≡ num (take 4 d) → b ≡ bits → r ≡ v % 2 ^ b
    → r ≡ draw sha256 s bits i
unfolding draw
tagged_drawn s bits i h e v b r =
    let long : length s + 1 ≤ 288 = omega arith in
    rw (r, v, e, b, tagged_short 0x14 s (i ∷ []) long)

-- One root more, at the end.
pub absorbed_snoc : (hash : List ℕ → Digest) (s : Digest) (roots : List Digest) (r : Digest)
    → absorbed hash s (roots ++ (r ∷ [])) ≡ absorb hash (absorbed hash s roots) r
unfolding absorbed
absorbed_snoc hash s [] r = refl
absorbed_snoc hash s (q ∷ roots) r = absorbed_snoc hash (absorb hash s q) roots r
