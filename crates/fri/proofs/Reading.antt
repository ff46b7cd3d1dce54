-- The bytes of a proof that holds are read to their end, with no refusal. Assumes nothing.
use Prim.Native.Nat.{ℕ, suc, ◌+◌, ◌<◌}
use mathlib.Core.List.{List, [], ◌∷◌, append_assoc, map, map-id}
use mathlib.Core.Path.{◌≡◌, refl, subst}
use native.Mathlib.Omega.{arith}
use lib.Dec.{ltb}
use lib.ListN.{length, get_or}
use borrow.Author.Tests.{lt-ltb, eq-eqb}
use Rattle.answer.specs.Table.{count_differs, parameters_differ, not_below_modulus, not_the_folded_value, path_misses_root, misses_final_polynomial}
use Rattle.params.specs.declared.Params.{Params}
use Rattle.params.specs.Parameters.{Valid, header_size, header, index_bits, final_count}
use Rattle.params.proofs.ParameterLaws.{final-small}
use Rattle.field.specs.Modular.{p as modulus}
use Rattle.message.specs.Bytes.{le, num, joined, words}
use Rattle.message.specs.Message.{Digest}
use Rattle.message.proofs.Bytes.{le-length, num-le-below}
use Rattle.transcript.specs.Transcript.{start, absorb_final, draw, absorbed}
use Rattle.fold.specs.Fold.{Expected, anything}
use Rattle.fri.specs.Process.{many, bytes}
use Rattle.fri.specs.Encoding.{Opening, Proof, opening_bytes, query_bytes, encode, IsDigest, HasLayout}
use Rattle.fri.specs.Judge.{count, number, walk, queries, sections}
use Rattle.fri.specs.Accepted.{drawn_leaf, Holds}
use Rattle.fri.proofs.Same.{same_self}
use Rattle.fri.proofs.Process.{Reads, reads_pure, reads_bind, reads_bytes, reads_test, reads_ensure, reads_then, reads_last, reads_many}
use Rattle.fri.proofs.Chain.{Chain, end, layer, holds_chain}

reads_count : (c : ℕ) → c < 65536 → Reads (count c) (le 2 c) tt
unfolding count
reads_count c h = reads_last _ (reads_bytes (le 2 c) 2 (le-length 2 c)) (reads_ensure _ count_differs (eq-eqb (num (le 2 c)) c (num-le-below 2 c h)))

reads_number : (v : ℕ) → v < modulus → Reads number (le 4 v) v
unfolding number
reads_number v h =
    let same : num (le 4 v) ≡ v = num-le-below 4 v (omega arith) in
    reads_last _ (reads_bytes (le 4 v) 4 (le-length 4 v)) (rw same (reads_test (ltb v modulus) not_below_modulus (lt-ltb v modulus h) (reads_pure v)))

reads_numbers : (c : ℕ) (vs : List ℕ) → length vs ≡ c → ((i : ℕ) → i < c → get_or vs i 0 < modulus) → Reads (many c number) (words vs) vs
unfolding words
reads_numbers c vs e below = rw (← e) (reads_many (le 4) 0 vs (λ i h. reads_number (get_or vs i 0) (below i (omega arith))))

reads_digests : (c : ℕ) (ds : List Digest) → length ds ≡ c → ((i : ℕ) → i < c → IsDigest (get_or ds i [])) → Reads (many c (bytes 32)) (joined ds) ds
reads_digests c ds e each =
    rw (← e) (rw map-id at (reads_many (λ d. d) [] ds (λ i h. reads_bytes (get_or ds i []) 32 (each i (omega arith)).size)))

module _ (hash : List ℕ → Digest) (p : Params) where
  reads_walk : {final : List ℕ} {j m : ℕ} {e : Expected} {s : Digest} {roots : List Digest} {os : List Opening} → Chain hash p final j m e s roots os
      → Reads (walk hash p final j m e s roots) (query_bytes os) tt
  unfolding walk query_bytes opening_bytes joined
  reads_walk (end h) = reads_ensure _ misses_final_polynomial h
  reads_walk (layer {root = root} {o = o} {os = os} form h opens rest) =
      simp append_assoc
      (reads_bind _ (reads_numbers _ o.values form.value_count form.value_below)
      (reads_test _ not_the_folded_value h
      (reads_bind _ (reads_digests _ o.siblings form.sibling_count form.sibling)
      (reads_test _ path_misses_root (rw opens (same_self root)) (reads_walk rest)))))

  -- Queries from query i on: the c-th of them is query l = i + c.
  reads_queries : (final : List ℕ) (t s : Digest) (roots : List Digest) (qs : List (List Opening)) (i : ℕ)
      → ((c l : ℕ) → l ≡ i + c → c < length qs → Chain hash p final 0 (draw hash t (index_bits p) l) anything s roots (get_or qs c []))
      → Reads (queries hash p (length qs) i final t s roots) (joined (map query_bytes qs)) tt
  unfolding queries joined
  reads_queries final t s roots [] i chains = reads_pure tt
  reads_queries final t s roots (os ∷ qs) i chains =
      reads_then (reads_walk (chains 0 i (omega arith) (omega arith)))
      (reads_queries final t s roots qs (suc i) (λ c l e h. chains (suc c) l (omega arith) (omega arith)))

  pub reads_sections : (context : List ℕ) (proof : Proof) → Valid p → HasLayout p proof → Holds hash p context proof
      → Reads (sections hash p (start hash (header p) context)) (encode p proof) tt
  unfolding sections encode drawn_leaf
  reads_sections context proof v layout holds =
      let s : Digest = start hash (header p) context in
      let t : Digest = absorb_final hash (absorbed hash s proof.roots) proof.final in
      reads_then (reads_count header_size (omega arith))
      (reads_bind {xs = header p} _ (reads_bytes (header p) header_size refl)
      (reads_test _ parameters_differ (same_self (header p))
      (reads_then (reads_count p.k (omega arith))
      (reads_bind _ (reads_digests p.k proof.roots layout.root_count layout.root_digest)
      (reads_then (reads_count (final_count p) (omega (arith, final-small p v)))
      (reads_bind _ (reads_numbers (final_count p) proof.final layout.final_count_lem layout.final_below)
      (reads_then (reads_count p.q (omega arith))
      (subst (λ c. Reads (queries hash p c 0 proof.final t s proof.roots) (joined (map query_bytes proof.queries)) tt) layout.query_count
      (reads_queries proof.final t s proof.roots proof.queries 0 (λ c l e h.
      let same : l ≡ c = omega arith in
      rw same (holds_chain hash p context proof layout holds c (omega (arith, layout.query_count)))))))))))))
