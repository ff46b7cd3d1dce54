-- The openings read from the writer's buffers, once all layers are done, are those of the built proof. Assumes nothing.
use Prim.Native.Nat.{ℕ, zero, suc, ◌+◌, ◌*◌, ◌%◌, ◌<◌}
use mathlib.Core.List.{List, ◌∷◌, ◌++◌, map}
use mathlib.Core.Path.{◌≡◌, refl, sym, ap, ap₂, ◌∙◌}
use native.Mathlib.Omega.{arith}
use lib.ListN.{length, get_or}
use Rattle.params.specs.declared.Params.{Params}
use Rattle.params.specs.Parameters.{Valid, values_per_leaf, height, leaf_count, index_bits, final_count}
use Rattle.message.specs.Bytes.{joined, part, words}
use Rattle.message.specs.Message.{Digest}
use Rattle.params.proofs.LeafLaws.{leaf_lt}
use Rattle.domain.specs.Domain.{point}
use Rattle.transcript.specs.Transcript.{absorb_final, draw}
use Rattle.fold.specs.Poly.{eval}
use Rattle.fri.specs.Encoding.{opening_bytes, query_bytes}
use Rattle.message.specs.Lists.{tabulate}
use Rattle.message.proofs.Tabulate.{tabulate_at, tabulate-same}
use Rattle.polynomial.specs.Polynomial.{layer_size, values}
use Rattle.tree.specs.Tree.{values_of, siblings_in, tree_size}
use Rattle.tree.proofs.Path.{siblings-path}
use Rattle.built.specs.Built.{leaf_values, leaves, layer_at, built_leaf, opening_of, build}
use Rattle.built.proofs.Layers.{leaves-length}
use Rattle.writer_model.specs.Buffers.{Buffers, poly_in, values_in, tree_start, leaf_in, opening_in, query_in, queries_in, final_in}
use Rattle.writer_model.proofs.Represents.{Represents}
use Rattle.writer_model.proofs.Layers.{index_lt, leaf-length}

-- A function of each value.
map-tabulate : {A B : Type 0} (f : A → B) (n : ℕ) (g : ℕ → A) → map f (tabulate n g) ≡ tabulate n (λ i. f (g i))
unfolding tabulate
map-tabulate f zero g = refl
map-tabulate f (suc n) g = ap (λ xs. f (g 0) ∷ xs) (map-tabulate f n (λ i. g (suc i)))

module _ (hash : List ℕ → Digest) (size : (xs : List ℕ) → length (hash xs) ≡ 32) (p : Params) (context f file : List ℕ) (v : Valid p)
    (w : Buffers) (represents : Represents hash p context f file p.k w) where
  abbrev poly : ℕ → List ℕ
  poly j = (layer_at hash p context f j).poly

  -- Value i of layer j is the polynomial's value there.
  value_in : (j i : ℕ) → j < p.k → i < layer_size p.n j → get_or (values_in p j w.numbers) i 0 ≡ eval (poly j) (point p.n j i)
  unfolding values
  value_in j i h l = ap (λ xs. get_or xs i 0) (represents.values_in_lem j h) ∙ tabulate_at (layer_size p.n j) _ i 0 l

  siblings_in_lem : (j m : ℕ) → j < p.k → m < leaf_count p j
      → siblings_in (height p j) (part (tree_start p j) (tree_size (height p j)) w.bytes) m ≡ joined (opening_of hash p context f j m).siblings
  unfolding opening_of
  siblings_in_lem j m h l =
      ap (λ t. siblings_in (height p j) t m) (represents.tree_in_lem j h)
      ∙ siblings-path hash size (height p j) (leaves hash p (poly j) j) m (leaves-length hash p (poly j) j) l (leaf-length hash p (poly j) j size)

  -- The opening of leaf m of layer j.
  pub opening_built : (j m : ℕ) → j < p.k → m < leaf_count p j
      → opening_in p j m w.numbers w.bytes ≡ opening_bytes (opening_of hash p context f j m)
  unfolding opening_in leaf_in values_of leaf_values opening_bytes opening_of
  opening_built j m h l =
      ap₂ (λ vs r. words vs ++ r)
      (tabulate-same (values_per_leaf p) _ _ (λ r b. value_in j (m + r * leaf_count p j) h (index_lt p j m r (omega arith) l b)))
      (siblings_in_lem j m h l)

  -- The final coefficients, and so the leaves that are drawn.
  pub final_built : final_in p hash w ≡ poly p.k
  unfolding poly_in final_count
  final_built = represents.poly

  leaf_built : (i : ℕ) → draw hash (absorb_final hash w.state (final_in p hash w)) (index_bits p) i ≡ built_leaf hash p context f i
  unfolding built_leaf
  leaf_built i = ap₂ (λ s g. draw hash (absorb_final hash s g) (index_bits p) i) represents.state final_built

  -- The openings of the query at leaf m, and those of all queries.
  query_built : (m : ℕ) → query_in p m w.numbers w.bytes ≡ query_bytes (tabulate p.k (λ j. opening_of hash p context f j (m % leaf_count p j)))
  unfolding query_in query_bytes
  query_built m =
      ap joined
      (tabulate-same p.k _ _ (λ j h. opening_built j (m % leaf_count p j) h (leaf_lt p j m)) ∙ sym (map-tabulate opening_bytes p.k _))

  pub queries_built : queries_in p hash (absorb_final hash w.state (final_in p hash w)) w.numbers w.bytes
      ≡ joined (map query_bytes (build hash p context f).queries)
  unfolding queries_in build
  queries_built =
      ap joined
      (tabulate-same p.q _ _ (λ i h. ap (λ m. query_in p m w.numbers w.bytes) (leaf_built i) ∙ query_built (built_leaf hash p context f i))
      ∙ sym (map-tabulate query_bytes p.q _))
