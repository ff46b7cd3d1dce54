-- Leaves and indices. An index m of layer j is its leaf, m mod the leaves, and the entry of that leaf's values that it names, m div the leaves. Assumes
-- nothing.
use Prim.Native.Nat.{ℕ, suc, ◌+◌, ◌*◌, ◌^◌, ◌%◌, ◌/◌, ◌-◌, ◌<◌, ◌≤◌}
use mathlib.Core.Path.{◌≡◌, ap, ◌∙◌}
use native.Mathlib.Nat.{pow-succ', mod-lt, mod-add-div', div-lt_iff_lt-mul}
use native.Mathlib.Omega.{arith}
use lib.Pow.{pow_pos, mod-mod-pow}
use Rattle.params.specs.declared.Params.{Params}
use Rattle.params.specs.Parameters.{height, leaf_count, values_per_leaf}

module _ (p : Params) where
  pub leaves_positive : (j : ℕ) → 0 < leaf_count p j
  leaves_positive j = pow_pos (height p j)

  -- A layer has as many points as its leaves have values; the next layer has a point for each leaf.
  pub leaves-next : (j : ℕ) → suc j < p.n → leaf_count p j ≡ values_per_leaf p * leaf_count p (suc j)
  leaves-next j h = ap (λ e. 2 ^ e) (omega arith) ∙ pow-succ' 2 (height p (suc j))

  pub leaf_lt : (j m : ℕ) → m % leaf_count p j < leaf_count p j
  leaf_lt j m = mod-lt m (leaves_positive j)

  -- A later layer's leaf may be taken from any earlier one's.
  pub leaf_later : (j l m : ℕ) → j ≤ l → m % leaf_count p j % leaf_count p l ≡ m % leaf_count p l
  leaf_later j l m h = ap (λ u. m % 2 ^ u % 2 ^ height p l) more ∙ mod-mod-pow m (height p j - height p l) (height p l)
    where
      more : height p j ≡ height p j - height p l + height p l
      more = omega arith

  pub leaf-next : (j m : ℕ) → m % leaf_count p j % leaf_count p (suc j) ≡ m % leaf_count p (suc j)
  leaf-next j m = leaf_later j (suc j) m (omega arith)

  -- The entry that an index names, and the index from leaf and entry.
  pub entry_lt : (j m : ℕ) → m < values_per_leaf p * leaf_count p j → m / leaf_count p j < values_per_leaf p
  entry_lt j m h = (div-lt_iff_lt-mul (leaves_positive j)).1 h

  pub index_named : (j m : ℕ) → m % leaf_count p j + m / leaf_count p j * leaf_count p j ≡ m
  index_named j m = mod-add-div' m (leaf_count p j)
