-- The fold at one point x (document 01, "The fold"): next is the one number with 2·x·next = x·(a+c) + β·(a−c), for the values a at x and c at −x.
use Rattle.std.specs.Prelude.{ℕ, Bool, List, ◌≡◌, eqb, get_or}
use Rattle.field.specs.Modular.{add_mod, sub_mod, mul_mod, inv_mod}

-- 2·x
abbrev pub scale : ℕ → ℕ
scale x = mul_mod 2 x

-- x·(a+c) + β·(a−c)
abbrev pub folded : ℕ → ℕ → ℕ → ℕ → ℕ
folded x β a c = add_mod (mul_mod x (add_mod a c)) (mul_mod β (sub_mod a c))

-- The test of the folded value v, without a division: the scale times v is the folded sum.
unfoldable pub agrees : ℕ → ℕ → ℕ → Bool
agrees scale folded v = eqb (mul_mod scale v) folded

-- v is the folded value: 2·x·v = x·(a+c) + β·(a−c).
abbrev pub Colinear : ℕ → ℕ → ℕ → ℕ → ℕ → Type 0
Colinear x β a c v = mul_mod (scale x) v ≡ folded x β a c

-- v is the value folded from a leaf's values, the first of them at x.
abbrev pub FoldsFrom : ℕ → ℕ → List ℕ → ℕ → Type 0
FoldsFrom x β values v = Colinear x β (get_or values 0 0) (get_or values 1 0) v

-- What the value in the next layer must meet, worked out before it is read.
pub record Expected : Type 0 where
  pub scale : ℕ
  pub folded : ℕ

abbrev pub expected : ℕ → ℕ → List ℕ → Expected
expected x β values = record { scale = scale x; folded = folded x β (get_or values 0 0) (get_or values 1 0) }

-- Met by every value: nothing is expected of layer 0's.
abbrev pub anything : Expected
anything = record { scale = 0; folded = 0 }

abbrev pub fits : Expected → ℕ → Bool
fits e v = agrees e.scale e.folded v

-- The folded value.
unfoldable pub next : ℕ → ℕ → ℕ → ℕ → ℕ
next x β a c = mul_mod (inv_mod (scale x)) (folded x β a c)
