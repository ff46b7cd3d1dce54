-- The judgement as one step through a file, with all the table's faults but the last. Assumes nothing.
use Prim.Native.Nat.{ℕ, suc, ◌+◌, ◌-◌, ◌<◌}
use mathlib.Core.List.{List}
use mathlib.Core.Path.{◌≡◌, refl}
use native.Mathlib.Nat.{add-zero}
use native.Mathlib.Omega.{arith}
use lib.ListN.{get_or, drop}
use Rattle.answer.specs.Table.{count_differs, parameters_differ, not_below_modulus}
use Rattle.params.specs.declared.Params.{Params}
use Rattle.params.specs.Parameters.{Valid, header_size, header, final_count, root_count_offset, final_count_offset, coefficient_offset, query_count_offset, queries_offset, opening_offset, file_length}
use Rattle.field.specs.Modular.{p as modulus}
use Rattle.message.specs.Bytes.{num, part}
use Rattle.message.specs.Message.{Digest}
use Rattle.transcript.specs.Transcript.{start, absorbed, absorb_final}
use Rattle.fri.specs.Process.{Process, run, left, outcome, bytes, many, pure, done, ended, ◌>>=◌, ◌>>◌}
use Rattle.fri.specs.Encoding.{Proof}
use Rattle.fri.specs.Judge.{same_bytes, number, queries, sections, judgement}
use Rattle.fri.specs.Accepted.{drawn_leaf}
use Rattle.message.proofs.Tabulate.{tabulate_at}
use Rattle.fri.proofs.Same.{same-equal}
use Rattle.rules.specs.Rules.{proof_in}
use Rattle.rules.proofs.Faults.{Faults, One, Either, Some}
use Rattle.rules.proofs.Steps.{Step, Through, then, only, tested, in_a_row, bytes-taken, many-taken}
use Rattle.rules.proofs.Parts.{differ, count-taken, number-taken, digests-taken}
use Rattle.rules.proofs.Offsets.{offset_first, offset_query, offset_last}
use Rattle.rules.proofs.Walked.{QueryFaults, query-step}

module _ (hash : List ℕ → Digest) (p : Params) (context file : List ℕ) where
  abbrev proof : Proof
  proof = proof_in p file

  -- The coefficients.
  abbrev pub CoefficientFaults : ℕ → Faults
  CoefficientFaults i = One (¬ (get_or proof.final i 0 < modulus)) not_below_modulus (coefficient_offset p i + 4)

  coefficients_step : (k : List ℕ → Process)
      → Through file (Some CoefficientFaults (final_count p)) (final_count_offset p + 2) (query_count_offset p)
      (many (final_count p) number k) (k proof.final)
  unfolding proof_in
  coefficients_step k =
      let read : ℕ → ℕ = λ i. num (part (coefficient_offset p i) 4 file) in
      rw (add-zero (final_count_offset p + 2)) at (many-taken {file = file} (final_count p) number CoefficientFaults (coefficient_offset p) read k
      (λ i h l.
      rw (tabulate_at (final_count p) read i 0 h)
      (number-taken (coefficient_offset p i) (coefficient_offset p (suc i)) (coefficient_offset p i + 4) _ l (omega arith) (omega arith) refl)))

  -- The queries.
  abbrev drawing : Digest
  drawing = absorb_final hash (absorbed hash (start hash (header p) context) proof.roots) proof.final

  queries-step : Valid p → (k : Unit {0} → Process)
      → Through file (Some (QueryFaults hash p context file) p.q) (queries_offset p) (file_length p)
      (queries hash p p.q 0 proof.final drawing (start hash (header p) context) proof.roots k) (k tt)
  unfolding queries drawn_leaf ◌>>◌ pure
  queries-step v k =
      rw (offset_first p, offset_last p, all_left, none_left)
      at (in_a_row p.q (QueryFaults hash p context file) (λ i. opening_offset p i 0) from each)
    where
      all_left : p.q - 0 ≡ p.q
      all_left = omega arith

      none_left : p.q - p.q ≡ 0
      none_left = omega arith

      from : ℕ → Process
      from i = queries hash p (p.q - i) i proof.final drawing (start hash (header p) context) proof.roots k

      each : (i : ℕ) → i < p.q
          → Through file (QueryFaults hash p context file i) (opening_offset p i 0) (opening_offset p (suc i) 0) (from i) (from (suc i))
      each i h =
          let more : p.q - i ≡ suc (p.q - suc i) = omega arith in
          rw (more, offset_query p i) (query-step hash p context file v i (λ _. from (suc i)) h)

  -- All of them, in the file's order.
  abbrev pub AllFaults : Faults
  AllFaults =
      Either (One (¬ (num (part 0 2 file) ≡ header_size)) count_differs 2)
      (Either (One (¬ (part 2 header_size file ≡ header p)) parameters_differ (2 + header_size))
      (Either (One (¬ (num (part root_count_offset 2 file) ≡ p.k)) count_differs (root_count_offset + 2))
      (Either (One (¬ (num (part (final_count_offset p) 2 file) ≡ final_count p)) count_differs (final_count_offset p + 2))
      (Either (Some CoefficientFaults (final_count p))
      (Either (One (¬ (num (part (query_count_offset p) 2 file) ≡ p.q)) count_differs (query_count_offset p + 2))
      (Some (QueryFaults hash p context file) p.q))))))

  pub judgement-step : Valid p
      → Step file AllFaults 0 (file_length p) (run (judgement hash p context) file 0) (ended (drop (file_length p) file) (file_length p))
  unfolding judgement sections bytes ◌>>=◌ ◌>>◌ run left outcome proof_in queries_offset
  judgement-step v =
      then (count-taken header_size 0 2 _ refl)
      (then
      (only
      (tested _ _ (same_bytes (part 2 header_size file) (header p)) parameters_differ (omega arith)
      (λ t n. n (same-equal _ _ t)) (differ _ _) (λ c d f. absurd f) (bytes-taken header_size 2 (2 + header_size) _ refl)))
      (then (count-taken p.k root_count_offset (root_count_offset + 2) _ refl)
      (then
      (only
      (then (digests-taken p.k (root_count_offset + 2) (final_count_offset p) proof.roots _ refl refl)
      (count-taken (final_count p) (final_count_offset p) (final_count_offset p + 2) _ refl)))
      (then (coefficients_step _)
      (then (count-taken p.q (query_count_offset p) (query_count_offset p + 2) _ refl)
      (queries-step v (λ _. done)))))))
