-- A choice by a test, in the direction of a function's answer. Assumes nothing.
use mathlib.Core.Path.{◌≡◌}
use mathlib.Core.Bool.{Bool, true, false, cond}

-- A choice whose test holds, and one whose test fails.
pub taken : {A : Type 0} {b : Bool} {x : A} (y : A) → b ≡ true → x ≡ cond b x y
taken {A} {b} {x} y e = rw e

pub left : {A : Type 0} {b : Bool} {y : A} (x : A) → b ≡ false → y ≡ cond b x y
left {A} {b} {y} x e = rw e
