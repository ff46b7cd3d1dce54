-- The writer's buffers, step by step. Layer j has its values in the lent numbers and its tree
-- in the lent bytes, each from the layer's size on; the polynomial stands in front of the numbers and is folded there.
use Rattle.std.specs.Prelude.{ℕ, zero, suc, ◌*◌, ◌^◌, ◌-◌, ◌%◌, List, ◌++◌, take}
use Rattle.std.proofs.lemmas.List.Edits.{sets}
use Rattle.params.specs.declared.Params.{Params}
use Rattle.params.specs.Parameters.{header_size, header, depth, values_per_leaf, height, leaf_count, index_bits, final_count, root_count_offset, root_offset, final_count_offset, coefficient_offset, query_count_offset, queries_offset}
use Rattle.message.specs.Bytes.{le, joined, part, words}
use Rattle.message.specs.Message.{Digest}
use Rattle.merkle.specs.Merkle.{root_of}
use Rattle.transcript.specs.Transcript.{start, absorb, challenge, absorb_final, draw}
use Rattle.fold.specs.Poly.{fold}
use Rattle.message.specs.Lists.{tabulate}
use Rattle.polynomial.specs.Polynomial.{layer_size, values}
use Rattle.tree.specs.Tree.{values_of, leaf_row, rows, siblings_in, tree_size}

-- The lent buffers, and the transcript.
pub record Buffers : Type 0 where
  pub numbers : List ℕ
  pub bytes : List ℕ
  pub file : List ℕ
  pub state : Digest

abbrev pub buffers : List ℕ → List ℕ → List ℕ → Digest → Buffers
buffers numbers bytes file state = record { numbers = numbers; bytes = bytes; file = file; state = state }

module _ (p : Params) where
  -- Layer j's polynomial, and its values.
  unfoldable pub poly_in : ℕ → List ℕ → List ℕ
  poly_in j numbers = take (2 ^ (p.n - p.b - depth p j)) numbers

  unfoldable pub values_in : ℕ → List ℕ → List ℕ
  values_in j numbers = part (layer_size p.n (depth p j)) (layer_size p.n (depth p j)) numbers

  -- The numbers after layer j's evaluation, and after its fold.
  unfoldable pub with_values : ℕ → List ℕ → List ℕ
  with_values j numbers = sets numbers (layer_size p.n (depth p j)) (values p.n (depth p j) (poly_in j numbers))

  unfoldable pub with_fold : ℕ → ℕ → List ℕ → List ℕ
  with_fold j β numbers = sets numbers 0 (fold β (poly_in j numbers))

  -- Where layer j's tree starts.
  abbrev pub tree_start : ℕ → ℕ
  tree_start j = 32 * layer_size p.n (depth p j)

  -- The values of leaf m of layer j.
  unfoldable pub leaf_in : ℕ → ℕ → List ℕ → List ℕ
  leaf_in j m numbers = values_of (values_per_leaf p) (leaf_count p j) (values_in j numbers) m

  -- The bytes of the opening of leaf m of layer j, those of a query, and those of all queries.
  unfoldable pub opening_in : ℕ → ℕ → List ℕ → List ℕ → List ℕ
  opening_in j m numbers bytes = words (leaf_in j m numbers) ++ siblings_in (height p j) (part (tree_start j) (tree_size (height p j)) bytes) m

  unfoldable pub query_in : ℕ → List ℕ → List ℕ → List ℕ
  query_in m numbers bytes = joined (tabulate p.k (λ j. opening_in j (m % leaf_count p j) numbers bytes))

  -- The file with section 1 and section 2's count.
  abbrev pub head_in : List ℕ → List ℕ
  head_in file = sets (sets (sets file 0 (le 2 header_size)) 2 (header p)) root_count_offset (le 2 p.k)

  module _ (hash : List ℕ → Digest) where
    -- Layer j's tree and root over its values.
    unfoldable pub tree_in : ℕ → List ℕ → List ℕ
    tree_in j numbers = rows hash (height p j) (leaf_row hash j (values_per_leaf p) (height p j) (values_in j numbers))

    unfoldable pub root_in : ℕ → List ℕ → Digest
    root_in j numbers = root_of hash (height p j) (leaf_row hash j (values_per_leaf p) (height p j) (values_in j numbers))

    unfoldable pub queries_in : Digest → List ℕ → List ℕ → List ℕ
    queries_in s numbers bytes = joined (tabulate p.q (λ i. query_in (draw hash s (index_bits p) i) numbers bytes))

    -- One layer done: its values, its tree, its root in the file and in the transcript, and the fold.
    unfoldable pub committed : ℕ → Buffers → Buffers
    committed j w =
        record {
          numbers = with_values j w.numbers;
          bytes = sets w.bytes (tree_start j) (tree_in j (with_values j w.numbers));
          file = sets w.file (root_offset j) (root_in j (with_values j w.numbers));
          state = absorb hash w.state (root_in j (with_values j w.numbers));
        }

    unfoldable pub layered : ℕ → Buffers → Buffers
    layered j w =
        record {
          numbers = with_fold j (challenge hash (committed j w).state) (committed j w).numbers;
          bytes = (committed j w).bytes;
          file = (committed j w).file;
          state = (committed j w).state;
        }

    -- The first layers done.
    unfoldable pub all_layered : ℕ → Buffers → Buffers
    all_layered zero w = w
    all_layered (suc j) w = layered j (all_layered j w)

    -- The start: the coefficients in front of the numbers, and the file up to its first root.
    unfoldable pub begun : List ℕ → List ℕ → List ℕ → List ℕ → List ℕ → Buffers
    begun context f numbers bytes file =
        record {
          numbers = sets numbers 0 f;
          bytes = bytes;
          file = head_in file;
          state = start hash (header p) context;
        }

    -- The end: what the file is once the final coefficients and the openings stand in it too.
    abbrev pub final_in : Buffers → List ℕ
    final_in w = take (final_count p) w.numbers

    unfoldable pub with_final : Buffers → List ℕ
    with_final w = sets (sets w.file (final_count_offset p) (le 2 (final_count p))) (coefficient_offset p 0) (words (final_in w))

    unfoldable pub with_openings : Buffers → List ℕ
    with_openings w =
        sets (sets (with_final w) (query_count_offset p) (le 2 p.q)) (queries_offset p)
        (queries_in (absorb_final hash w.state (final_in w)) w.numbers w.bytes)
