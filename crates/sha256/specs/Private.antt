-- What only the contracts of private functions cite.
use Rattle.std.specs.Prelude.{◌≡◌, List, ℕ, ◌+◌, ◌<◌, get_or}
use Rattle.sha256.specs.Sha256.{next_word, rounds}
use Rattle.sha256.specs.Words.{build}

-- every word of the 64 from the seventeenth on is that of the schedule
abbrev pub Extends : List ℕ → Type 0
Extends words = (t : ℕ) → t < 48 → get_or words (t + 16) 0 ≡ next_word words t

-- sixteen words of the schedule, from word n on
unfoldable pub window : List ℕ → ℕ → List ℕ
window words n = build (λ i. get_or words (n + i) 0) 16

-- what a turn makes of the state s after n rounds and of the sixteen words w from word n on: both eight on, whatever schedule and hash value it is
pub record Turns (n : ℕ) (s w s' w' : List ℕ) : Type 0 where
  pub follow : (words h : List ℕ) → w ≡ window words n → s ≡ rounds words h n → s' ≡ rounds words h (n + 8)
  pub slide : (words : List ℕ) → Extends words → w ≡ window words n → w' ≡ window words (n + 8)

-- r is the state after 64 rounds where s is that after 48 and w are the last sixteen words
pub record LastRounds (w s r : List ℕ) : Type 0 where
  pub follow : (words h : List ℕ) → w ≡ window words 48 → s ≡ rounds words h 48 → r ≡ rounds words h 64
