-- The layers of the built proof: the sizes of their polynomials, and the transcript before each. Assumes nothing.
use Prim.Native.Nat.{ℕ, zero, suc, ◌^◌, ◌-◌, ◌<◌, ◌≤◌}
use mathlib.Core.List.{List, []}
use mathlib.Core.Path.{◌≡◌, refl, sym, subst, ap, ap₂, ◌∙◌}
use native.Mathlib.Nat.{pow-succ'}
use native.Mathlib.Omega.{arith}
use lib.ListN.{length, get_or, take, length-append, length-replicate}
use lib.Seq.{take-suc}
use Rattle.message.specs.Message.{Digest}
use Rattle.params.specs.declared.Params.{Params}
use Rattle.params.specs.Parameters.{header, values_per_leaf, height}
use Rattle.transcript.specs.Transcript.{start, absorb, absorbed}
use Rattle.transcript.proofs.TranscriptLaws.{absorbed_snoc}
use Rattle.fold.specs.Poly.{Below}
use Rattle.fold.proofs.FoldCheck.{fold-length, fold-below, eval_lt}
use Rattle.built.specs.Built.{padded, leaf_values, leaves, layer_after, layer_at, built_root}
use Rattle.message.specs.Lists.{tabulate}
use Rattle.message.proofs.Tabulate.{tabulate-length, tabulate_at}

padded-length : (size : ℕ) (f : List ℕ) → length f ≤ size → length (padded size f) ≡ size
unfolding padded
padded-length size f h = simp (length-append, length-replicate) (omega arith)

pub leaves-length : (hash : List ℕ → Digest) (p : Params) (f : List ℕ) (j : ℕ) → length (leaves hash p f j) ≡ 2 ^ height p j
unfolding leaves
leaves-length hash p f j = tabulate-length _ _

-- As many values as a leaf has, each a field number.
pub leaf-count : (p : Params) (f : List ℕ) (j m : ℕ) → length (leaf_values p f j m) ≡ values_per_leaf p
unfolding leaf_values
leaf-count p f j m = tabulate-length (values_per_leaf p) _

pub leaf-below : (p : Params) (f : List ℕ) (j m r : ℕ) → r < values_per_leaf p → get_or (leaf_values p f j m) r 0 < 3221225473
unfolding leaf_values
leaf-below p f j m r l = subst (λ v. v < 3221225473) (sym (tabulate_at (values_per_leaf p) _ r 0 l)) (eval_lt _ _)

module _ (hash : List ℕ → Digest) (p : Params) (context f : List ℕ) where
  -- Each fold halves the number of coefficients.
  pub layer-length : (j : ℕ) → j ≤ p.n - p.b → length f ≤ 2 ^ (p.n - p.b)
      → length (layer_at hash p context f j).poly ≡ 2 ^ (p.n - p.b - j)
  unfolding layer_at layer_after
  layer-length zero h short = padded-length _ f short ∙ ap (λ e. 2 ^ e) (omega arith)
  layer-length (suc j) h short =
      fold-length _ _ (2 ^ (p.n - p.b - suc j))
      (layer-length j (omega arith) short ∙ ap (λ e. 2 ^ e) (omega arith) ∙ pow-succ' 2 (p.n - p.b - suc j))

  -- A fold's coefficients are below the modulus, whatever those of f are.
  pub layer_below : (j : ℕ) → 1 ≤ j → Below (layer_at hash p context f j).poly
  unfolding layer_at layer_after
  layer_below zero h = absurd (omega arith)
  layer_below (suc j) h = fold-below _ _

  -- The transcript before layer j is the one after the roots of the layers before it.
  pub layer-state : (k j : ℕ) → j ≤ k
      → absorbed hash (start hash (header p) context) (take j (tabulate k (built_root hash p context f))) ≡ (layer_at hash p context f j).state
  unfolding layer_at layer_after absorbed built_root
  layer-state k zero h = refl
  layer-state k (suc j) h =
      ap (absorbed hash _) (take-suc roots j [] (omega (arith, tabulate-length k root)))
      ∙ absorbed_snoc hash _ (take j roots) _
      ∙ ap₂ (absorb hash) (layer-state k j (omega arith)) (tabulate_at k root j [] h)
    where
      root : ℕ → Digest
      root = built_root hash p context f

      roots : List Digest
      roots = tabulate k root
