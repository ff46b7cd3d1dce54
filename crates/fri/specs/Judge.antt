-- The judgement of a file (document 01, "When the reader says no"): the sections in order, each test with the table's number, right after the
-- bytes that decide it. So a refusal's place is the last byte of what decides, and of two tests at one byte the earlier one goes first.
use Rattle.std.specs.Prelude.{ℕ, zero, suc, ◌+◌, ◌%◌, ◌/◌, Bool, true, false, ◌&&◌, cond, List, [], ◌∷◌, ltb, eqb, length, get_or}
use Rattle.answer.specs.declared.Answer.{Answer}
use Rattle.answer.specs.Table.{answered, open_so_far, accepted, count_differs, parameters_differ, not_below_modulus, not_the_folded_value, path_misses_root, misses_final_polynomial, too_few_bytes, byte_after_the_end}
use Rattle.params.specs.declared.Params.{Params}
use Rattle.params.specs.declared.Terms.{Terms}
use Rattle.params.specs.Admission.{admission_of}
use Rattle.params.specs.Parameters.{header_size, header, final_count, depth, values_per_leaf, height, leaf_count, index_bits}
use Rattle.field.specs.Modular.{p as modulus}
use Rattle.message.specs.Bytes.{num}
use Rattle.message.specs.Message.{Digest}
use Rattle.domain.specs.Domain.{point}
use Rattle.merkle.specs.Merkle.{climb, leaf_digest}
use Rattle.transcript.specs.Transcript.{start, absorb, challenge, absorb_final, draw, absorbed}
use Rattle.fold.specs.Poly.{eval}
use Rattle.fold.specs.Fold.{Expected, anything, expected, fits}
use Rattle.fri.specs.Process.{Process, Result, run, Parser, pure, ◌>>=◌, ◌>>◌, bytes, ensure, many, done, short, refused, ended}

-- Two byte strings are equal.
unfoldable pub same_bytes : List ℕ → List ℕ → Bool
same_bytes [] [] = true
same_bytes [] (y ∷ ys) = false
same_bytes (x ∷ xs) [] = false
same_bytes (x ∷ xs) (y ∷ ys) = eqb x y && same_bytes xs ys

-- A section's count, as 2 bytes. The wanted count comes from the parameters, never from the file.
unfoldable pub count : ℕ → Parser (Unit {0})
count c = do
  two ← bytes 2
  ensure (eqb (num two) c) count_differs

-- A number below the modulus, as 4 bytes.
unfoldable pub number : Parser ℕ
number = do
  four ← bytes 4
  ensure (ltb (num four) modulus) not_below_modulus
  pure (num four)

-- Of the values at a leaf of layer j, the one that index m names.
unfoldable pub value_at : Params → ℕ → ℕ → List ℕ → ℕ
value_at p j m values = get_or values (m / leaf_count p j) 0

module _ (hash : List ℕ → Digest) (p : Params) where
  -- The layers of a query from layer j on, then the final polynomial. The index is m in layer j, e is what the folded value must meet, s is
  -- the transcript before these layers' roots.
  unfoldable pub walk : List ℕ → ℕ → ℕ → Expected → Digest → List Digest → Parser (Unit {0})
  walk final j m e s [] = ensure (fits e (eval final (point p.n (depth p j) m))) misses_final_polynomial
  walk final j m e s (root ∷ roots) = do
    values ← many (values_per_leaf p) number
    ensure (fits e (value_at p j m values)) not_the_folded_value
    siblings ← many (height p j) (bytes 32)
    ensure (same_bytes (climb hash (leaf_digest hash j values) (m % leaf_count p j) siblings) root) path_misses_root
    walk final (suc j) (m % leaf_count p j) (expected (point p.n (depth p j) (m % leaf_count p j)) (challenge hash (absorb hash s root)) values) (absorb hash s root) roots

  -- As many queries as given, from query i on: t is the transcript that draws them, s the one before the roots. Of layer 0's values nothing is expected.
  unfoldable pub queries : ℕ → ℕ → List ℕ → Digest → Digest → List Digest → Parser (Unit {0})
  queries zero i final t s roots = pure tt
  queries (suc c) i final t s roots = do
    walk final 0 (draw hash t (index_bits p) i) anything s roots
    queries c (suc i) final t s roots

  -- The four sections, where s is the transcript before the roots.
  unfoldable pub sections : Digest → Parser (Unit {0})
  sections s = do
    count header_size
    parameters ← bytes header_size
    ensure (same_bytes parameters (header p)) parameters_differ
    count p.k
    roots ← many p.k (bytes 32)
    count (final_count p)
    final ← many (final_count p) number
    count p.q
    queries p.q 0 final (absorb_final hash (absorbed hash s roots) final) s roots

  -- The judgement as a process: the transcript starts from the parameters and the context.
  unfoldable pub judgement : List ℕ → Process
  judgement context = sections (start hash (header p) context) (λ _. done)

-- The answer to a piece, where total bytes are joined so far.
unfoldable pub piece_answer : Result → ℕ → Answer
piece_answer short total = answered open_so_far total
piece_answer (refused number place) total = answered number place
piece_answer (ended [] place) total = answered open_so_far total
piece_answer (ended (x ∷ xs) place) total = answered byte_after_the_end (place + 1)

-- The answer to the end call.
unfoldable pub end_answer : Result → ℕ → Answer
end_answer short total = answered too_few_bytes total
end_answer (refused number place) total = answered number place
end_answer (ended [] place) total = answered accepted place
end_answer (ended (x ∷ xs) place) total = answered byte_after_the_end (place + 1)

-- The verdict on a whole file: the judgement's, where the opening is admitted.
unfoldable pub verdict : (List ℕ → Digest) → Terms → List ℕ → Answer
verdict hash a file =
    cond (eqb (admission_of a) open_so_far)
    (end_answer (run (judgement hash a.params a.context) file 0) (length file))
    (answered (admission_of a) 0)
