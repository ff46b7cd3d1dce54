-- Where openings stand, one after another. Assumes nothing.
use Prim.Native.Nat.{ℕ, zero, suc, ◌+◌, ◌-◌, ◌≤◌, ◌<◌}
use mathlib.Core.Path.{◌≡◌}
use native.Mathlib.Nat.{zero-mul, suc-mul, zero-add, add-zero, add-suc}
use native.Mathlib.Numerals.{add-one}
use native.Mathlib.Omega.{arith}
use Rattle.params.specs.declared.Params.{Params}
use Rattle.params.specs.Parameters.{Valid, height, opening_length, query_length, queries_offset, opening_offset, file_length}
use Rattle.params.proofs.ParameterLaws.{query_snoc}
use Rattle.rules.specs.Rules.{opening_end}

module _ (p : Params) where
  -- The next layer's opening stands where this one ends; and a later one, no earlier.
  pub offset_next : (i j : ℕ) → opening_offset p i (suc j) ≡ opening_end p i j
  unfolding opening_offset opening_end
  offset_next i j =
      let more : query_length p 0 (suc j) ≡ query_length p 0 j + opening_length p j = rw (add-one j, zero-add j) at (query_snoc p 0 j) in
      omega arith

  offset_on : (i j t : ℕ) → opening_offset p i j ≤ opening_offset p i (j + t)
  unfolding opening_end
  offset_on i j zero = rw (add-zero j) (omega arith)
  offset_on i j (suc t) = rw (add-suc j t, offset_next i (j + t)) (omega (arith, offset_on i j t))

  pub offset_up : (i j l : ℕ) → j ≤ l → opening_offset p i j ≤ opening_offset p i l
  offset_up i j l h =
      let e : l ≡ j + (l - j) = omega arith in
      rw e (offset_on i j (l - j))

  -- The first opening, the next query's, and the end of them all.
  pub offset_first : opening_offset p 0 0 ≡ queries_offset p
  unfolding opening_offset query_length
  offset_first = rw (zero-mul (query_length p 0 p.k)) (omega arith)

  pub offset_query : (i : ℕ) → opening_offset p (suc i) 0 ≡ opening_offset p i p.k
  unfolding opening_offset query_length
  offset_query i = rw (suc-mul i (query_length p 0 p.k)) (omega arith)

  pub offset_last : opening_offset p p.q 0 ≡ file_length p
  unfolding opening_offset query_length file_length
  offset_last = omega arith

  -- An opening has a sibling.
  pub some_sibling : Valid p → (j : ℕ) → j < p.k → 0 < height p j
  some_sibling v j h = omega (arith, v.fits, v.b_low)
