-- A judgement of bytes as a process: it wants a number of bytes and goes on by what they are, or it refuses, or it is done. What a process
-- wants next may depend on the bytes so far. A refusal is decided by the last byte that was wanted before it.
use Rattle.std.specs.Prelude.{ℕ, zero, suc, ◌+◌, Bool, true, false, List, [], ◌∷◌, leb, length, take, drop}

infixl 20 ◌>>=◌ ◌>>◌
pub data Process : Type 0 where
  done : Process
  fail : ℕ → Process
  need : ℕ → (List ℕ → Process) → Process

-- What bytes come to: out of bytes with no fault; a refusal's number and place; or the end, with the bytes left and their place.
pub data Result : Type 0 where
  short : Result
  refused : ℕ → ℕ → Result
  ended : List ℕ → ℕ → Result

-- What is left of a process after bytes: the process, the bytes that it has not used, and their place.
pub record Left : Type 0 where
  pub process : Process
  pub held : List ℕ
  pub place : ℕ

-- What is left of a process after the bytes xs, which stand at place at.
unfoldable pub left : Process → List ℕ → ℕ → Left
left done xs at = record { process = done; held = xs; place = at }
left (fail c) xs at = record { process = fail c; held = xs; place = at }
left (need w k) xs at =
    elim (leb w (length xs)) [ true ↦ left (k (take w xs)) (drop w xs) (at + w) | false ↦ record { process = need w k; held = xs; place = at } ]

-- What it means to stop there.
unfoldable pub outcome : Process → List ℕ → ℕ → Result
outcome done held place = ended held place
outcome (fail c) held place = refused c place
outcome (need w k) held place = short

-- The process on the bytes xs.
unfoldable pub run : Process → List ℕ → ℕ → Result
run p xs at = outcome (left p xs at).process (left p xs at).held (left p xs at).place

-- A part of a process that hands on a value.
abbrev pub Parser : Type 0 → Type 0
Parser A = (A → Process) → Process

unfoldable pub pure : {A : Type 0} → A → Parser A
pure a = λ k. k a

unfoldable pub ◌>>=◌ : {A B : Type 0} → Parser A → (A → Parser B) → Parser B
◌>>=◌ p f = λ k. p (λ a. f a k)

unfoldable pub ◌>>◌ : {B : Type 0} → Parser (Unit {0}) → Parser B → Parser B
◌>>◌ p q = λ k. p (λ _. q k)

-- The next w bytes.
unfoldable pub bytes : ℕ → Parser (List ℕ)
bytes w = λ k. need w k

-- A test at the place reached: where it fails, the refusal with this number.
unfoldable pub ensure : Bool → ℕ → Parser (Unit {0})
ensure true c = λ k. k tt
ensure false c = λ k. fail c

-- The same, c times.
unfoldable pub many : {A : Type 0} → ℕ → Parser A → Parser (List A)
many zero p = pure []
many (suc c) p = p >>= λ a. many c p >>= λ rest. pure (a ∷ rest)
