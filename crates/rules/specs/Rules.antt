-- The table of refusals, row by row (document 01, "When the reader says no"): each number with its rule and its place, by offsets in the bytes.
-- Nothing here goes through the file in order: a rule looks at the bytes where the layout has them, whatever stands before.
use Rattle.std.specs.Prelude.{ℕ, suc, ◌+◌, ◌≤◌, ◌<◌, List, ◌≡◌, length, get_or}
use Rattle.answer.specs.Table.{open_so_far, accepted, count_differs, parameters_differ, not_below_modulus, not_the_folded_value, path_misses_root, misses_final_polynomial, too_few_bytes, byte_after_the_end}
use Rattle.field.specs.Modular.{p as modulus}
use Rattle.params.specs.declared.Params.{Params}
use Rattle.params.specs.declared.Terms.{Terms}
use Rattle.params.specs.Admission.{admission_of, Admitted}
use Rattle.params.specs.Parameters.{header_size, header, final_count, depth, values_per_leaf, height, opening_length, root_count_offset, root_offset, final_count_offset, coefficient_offset, query_count_offset, opening_offset, value_offset, sibling_offset, file_length}
use Rattle.message.specs.Bytes.{num, part}
use Rattle.message.specs.Message.{Digest}
use Rattle.domain.specs.Domain.{point}
use Rattle.merkle.specs.Merkle.{climb}
use Rattle.fold.specs.Poly.{eval}
use Rattle.fri.specs.Encoding.{Opening, Proof, root_at, opening_at}
use Rattle.message.specs.Lists.{tabulate}
use Rattle.fri.specs.Accepted.{leaf_at, opened_leaf, FoldsTo, next_value}

-- Where the opening of query i in layer j ends.
unfoldable pub opening_end : Params → ℕ → ℕ → ℕ
opening_end p i j = opening_offset p i j + opening_length p j

-- The proof that stands in a file: each part is read where the layout has it, tested or not.
unfoldable pub opening_in : Params → List ℕ → ℕ → ℕ → Opening
opening_in p file i j =
    record {
      values = tabulate (values_per_leaf p) (λ r. num (part (value_offset p i j r) 4 file));
      siblings = tabulate (height p j) (λ h. part (sibling_offset p i j h) 32 file);
    }

unfoldable pub proof_in : Params → List ℕ → Proof
proof_in p file =
    record {
      roots = tabulate p.k (λ j. part (root_offset j) 32 file);
      final = tabulate (final_count p) (λ i. num (part (coefficient_offset p i) 4 file));
      queries = tabulate p.q (λ i. tabulate p.k (opening_in p file i));
    }

module _ (hash : List ℕ → Digest) (p : Params) (context file : List ℕ) where
  abbrev proof : Proof
  proof = proof_in p file

  -- Rule c d: the rule of number c holds at place d.
  pub data Rule : ℕ → ℕ → Type 0 where
    -- 20: a section's count differs; at the count's 2nd byte
    count_1 : ¬ (num (part 0 2 file) ≡ header_size) → Rule count_differs 2
    count_2 : ¬ (num (part root_count_offset 2 file) ≡ p.k) → Rule count_differs (root_count_offset + 2)
    count_3 : ¬ (num (part (final_count_offset p) 2 file) ≡ final_count p) → Rule count_differs (final_count_offset p + 2)
    count_4 : ¬ (num (part (query_count_offset p) 2 file) ≡ p.q) → Rule count_differs (query_count_offset p + 2)
    -- 21: section 1 differs from the caller's parameters; at its last byte
    section_1 : ¬ (part 2 header_size file ≡ header p) → Rule parameters_differ (2 + header_size)
    -- 22: a number not below p; at its 4th byte
    coefficient : (i : ℕ) → i < final_count p → ¬ (get_or proof.final i 0 < modulus) → Rule not_below_modulus (coefficient_offset p i + 4)
    value : (i j r : ℕ) → i < p.q → j < p.k → r < values_per_leaf p → ¬ (get_or (opening_at proof i j).values r 0 < modulus)
        → Rule not_below_modulus (value_offset p i j r + 4)
    -- 24: the opened value of layer j + 1 is not the one folded from layer j; at the leaf's last value's last byte
    folded_value : (i j : ℕ) → i < p.q → suc j < p.k → ¬ FoldsTo hash p context proof i j (next_value hash p context proof i j)
        → Rule not_the_folded_value (value_offset p i (suc j) (values_per_leaf p))
    -- 23: the path misses the root; at the last sibling's last byte
    path : (i j : ℕ) → i < p.q → j < p.k
        → ¬ (climb hash (opened_leaf hash p context proof i j) (leaf_at hash p context proof i j) (opening_at proof i j).siblings ≡ root_at proof j)
        → Rule path_misses_root (opening_end p i j)
    -- 25: the chain misses the final polynomial; at the last sibling's last byte too
    final_value : (i j : ℕ) → i < p.q → suc j ≡ p.k
        → ¬ FoldsTo hash p context proof i j (eval proof.final (point p.n (depth p (suc j)) (leaf_at hash p context proof i j)))
        → Rule misses_final_polynomial (opening_end p i j)
    -- 27: a byte after the file's L bytes; at L + 1
    after_the_end : Rule byte_after_the_end (file_length p + 1)

  -- The bytes are refused with number c at place d: that byte is there, c's rule holds at it, no rule holds at an earlier byte, and none that goes
  -- before c at the same byte.
  pub record Refused (c d : ℕ) : Type 0 where
    pub there : d ≤ length file
    pub rule : Rule c d
    pub earliest : (c' d' : ℕ) → d' < d → ¬ Rule c' d'
    pub number_first : c ≡ not_the_folded_value → ¬ Rule not_below_modulus d
    pub path_first : c ≡ misses_final_polynomial → ¬ Rule path_misses_root d

  -- No rule holds at any of the bytes.
  unfoldable pub NoFault : Type 0
  NoFault = (c d : ℕ) → d ≤ length file → ¬ Rule c d

  -- The rows of a piece's answer, where the file is all bytes joined so far.
  pub data PieceRow : ℕ → ℕ → Type 0 where
    by_rule : {c d : ℕ} → Refused c d → PieceRow c d
    so_far : NoFault → PieceRow open_so_far (length file)

-- The rows of a whole file's verdict, for an opening with these arguments.
pub data VerdictRow (hash : List ℕ → Digest) (a : Terms) (file : List ℕ) : ℕ → ℕ → Type 0 where
  not_admitted : ¬ Admitted a → VerdictRow hash a file (admission_of a) 0
  by_rule : {c d : ℕ} → Admitted a → Refused hash a.params a.context file c d → VerdictRow hash a file c d
  whole : Admitted a → NoFault hash a.params a.context file → length file ≡ file_length a.params → VerdictRow hash a file accepted (length file)
  too_few : Admitted a → NoFault hash a.params a.context file → length file < file_length a.params
      → VerdictRow hash a file too_few_bytes (length file)
