-- The file that the writer's buffers end in is the built one. Assumes nothing.
use Prim.Native.Nat.{ℕ, ◌*◌, ◌^◌, ◌-◌, ◌<◌, ◌≤◌}
use mathlib.Core.List.{List, ◌++◌, map}
use mathlib.Core.Path.{◌≡◌, refl, sym, ap, ◌∙◌}
use native.Mathlib.Omega.{arith}
use lib.ListN.{length, get_or}
use lib.Seq.{sets}
use Rattle.params.specs.declared.Params.{Params}
use Rattle.params.specs.Parameters.{Valid, header_size, header, final_count, root_count_offset, root_offset, final_count_offset, coefficient_offset, query_count_offset, queries_offset, file_length}
use Rattle.params.specs.Admission.{terms_of}
use Rattle.params.proofs.AdmissionLaws.{admitted}
use Rattle.message.specs.Bytes.{le, joined, words}
use Rattle.message.specs.Message.{Digest}
use Rattle.message.proofs.Bytes.{le-length, sized, joined_length}
use Rattle.message.proofs.MessageLaws.{words-length}
use Rattle.message.proofs.Placed.{sets_behind, sets_all}
use Rattle.fri.specs.Encoding.{Proof, query_bytes, encode, HasLayout}
use Rattle.fri.proofs.Exactly.{accepted-length}
use Rattle.built.specs.Built.{build, built_file}
use Rattle.built.proofs.Built.{built_holds}
use Rattle.built.proofs.BuiltLayout.{built_layout}
use Rattle.writer_model.specs.Buffers.{Buffers, head_in, with_final, with_openings}
use Rattle.writer_model.proofs.Represents.{Represents}
use Rattle.writer_model.proofs.Opened.{final_built, queries_built}

-- Eight parts one after the other: the file's count, header, roots, final coefficients and openings, each list after its count.
parts_joined : (p : Params) (d a h k r c g q z : List ℕ) → length a ≡ 2 → length h ≡ header_size → length k ≡ 2 → length r ≡ 32 * p.k → length c ≡ 2
    → length g ≡ 4 * final_count p → length q ≡ 2
    → sets (sets (sets (sets (sets (sets (sets (sets d 0 a) 2 h) root_count_offset k) (root_offset 0) r) (final_count_offset p) c) (coefficient_offset p 0) g)
    (query_count_offset p) q) (queries_offset p) z
    ≡ sets d 0 (a ++ (h ++ (k ++ (r ++ (c ++ (g ++ (q ++ z)))))))
unfolding queries_offset
parts_joined p d a h k r c g q z two four layers roots count final queries =
    sets_behind _ q z (query_count_offset p) (queries_offset p) (omega arith)
    ∙ sets_behind _ g _ (coefficient_offset p 0) (query_count_offset p) (omega arith)
    ∙ sets_behind _ c _ (final_count_offset p) (coefficient_offset p 0) (omega arith)
    ∙ sets_behind _ r _ (root_offset 0) (final_count_offset p) (omega arith)
    ∙ sets_behind _ k _ root_count_offset (root_offset 0) (omega arith)
    ∙ sets_behind _ h _ 2 root_count_offset (omega arith)
    ∙ sets_behind d a _ 0 2 (omega arith)

module _
    (hash : List ℕ → Digest)
    (size : (xs : List ℕ) → length (hash xs) ≡ 32)
    (below : (xs : List ℕ) (i : ℕ) → i < 32 → get_or (hash xs) i 0 < 256)
    (p : Params)
    (context f : List ℕ) where
  -- The built file has the length L, since it is accepted.
  pub built_length : Valid p → length f ≤ 2 ^ (p.n - p.b) → length (built_file hash p context f) ≡ file_length p
  built_length v short =
      accepted-length hash (terms_of p context) (built_file hash p context f) (admitted p v) (built_holds hash size below p context f v short)

  abbrev proof : Proof
  proof = build hash p context f

  -- The roots, and the final coefficients, in bytes.
  roots-length : HasLayout p proof → length (joined proof.roots) ≡ 32 * p.k
  roots-length layout =
      joined_length (sized 32 _ (λ j h. (layout.root_digest j (omega (arith, layout.root_count))).size)) ∙ ap (λ n. 32 * n) layout.root_count

  final-length : HasLayout p proof → length (words proof.final) ≡ 4 * final_count p
  final-length layout = words-length _ ∙ ap (λ n. 4 * n) layout.final_count_lem

  -- The file from the start on: all parts, and no byte more.
  pub file_built : (file : List ℕ) → Valid p → length f ≡ 2 ^ (p.n - p.b) → length file ≡ file_length p → (w : Buffers)
      → Represents hash p context f (head_in p file) p.k w
      → with_openings p hash w ≡ built_file hash p context f
  unfolding with_openings with_final build built_file encode
  file_built file v full long w represents =
      let layout = built_layout hash size below p context f v (omega arith) in
      rw (queries_built hash size p context f _ v w represents, final_built hash size p context f _ v w represents, represents.roots_in)
      (parts_joined p file (le 2 header_size) (header p) (le 2 p.k) (joined proof.roots) (le 2 (final_count p)) (words proof.final) (le 2 p.q)
      (joined (map query_bytes proof.queries))
      (le-length 2 header_size) refl (le-length 2 p.k) (roots-length layout) (le-length 2 (final_count p)) (final-length layout) (le-length 2 p.q)
      ∙ sets_all file (built_file hash p context f) (built_length v (omega arith) ∙ sym long))
