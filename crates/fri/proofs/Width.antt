-- The judgement takes exactly L bytes, or refuses within them, with a number from 20 on, whatever the parameters. Assumes nothing.
use Prim.Native.Nat.{ℕ, zero, suc, ◌+◌, ◌*◌, ◌%◌}
use mathlib.Core.List.{List, [], ◌∷◌}
use mathlib.Core.Path.{◌≡◌, ap, ◌∙◌, subst}
use native.Mathlib.Nat.{zero-mul, suc-mul}
use native.Mathlib.Omega.{arith}
use lib.ListN.{length}
use Rattle.answer.specs.Table.{answered, accepted, count_differs, parameters_differ, not_below_modulus, not_the_folded_value, path_misses_root, misses_final_polynomial}
use Rattle.params.specs.declared.Params.{Params}
use Rattle.params.specs.Parameters.{header_size, header, values_per_leaf, height, leaf_count, index_bits, final_count, query_length, queries_offset, file_length}
use Rattle.message.specs.Message.{Digest}
use Rattle.transcript.specs.Transcript.{start, absorb, absorb_final, draw, absorbed}
use Rattle.fold.specs.Fold.{Expected, anything}
use Rattle.fri.specs.Process.{Result, done, short, refused, ended}
use Rattle.fri.specs.Judge.{count, number, walk, queries, sections, judgement, end_answer}
use Rattle.fri.proofs.Process.{Width, Extent, Any, Takes, takes_pure, takes_bind, takes_then, takes_bytes, takes_ensure, takes_many, ends, few, fault, full}

takes_count : (c : ℕ) → Takes (count c) 2 Any
unfolding count
takes_count c = takes_bind _ (takes_bytes 2) (λ two _. takes_ensure _ count_differs (omega arith))

takes_number : Takes number 4 Any
unfolding number
takes_number = takes_bind _ (takes_bytes 4) (λ four _. takes_then (takes_ensure _ not_below_modulus (omega arith)) (takes_pure _ tt))

module _ (hash : List ℕ → Digest) (p : Params) where
  takes_walk : (final : List ℕ) (j m : ℕ) (e : Expected) (s : Digest) (roots : List Digest)
      → Takes (walk hash p final j m e s roots) (query_length p j (length roots)) Any
  unfolding walk query_length
  takes_walk final j m e s [] = takes_ensure _ misses_final_polynomial (omega arith)
  takes_walk final j m e s (root ∷ roots) =
      subst (λ w. Takes (walk hash p final j m e s (root ∷ roots)) w Any) (omega arith)
      (takes_bind _ (takes_many (values_per_leaf p) takes_number) (λ values _. takes_then (takes_ensure _ not_the_folded_value (omega arith))
      (takes_bind _ (takes_many (height p j) (takes_bytes 32)) (λ siblings _. takes_then (takes_ensure _ path_misses_root (omega arith))
      (takes_walk final (suc j) (m % leaf_count p j) _ (absorb hash s root) roots)))))

  takes_queries : (c i : ℕ) (final : List ℕ) (t s : Digest) (roots : List Digest)
      → Takes (queries hash p c i final t s roots) (c * query_length p 0 (length roots)) Any
  unfolding queries
  takes_queries zero i final t s roots = rw zero-mul (takes_pure tt tt)
  takes_queries (suc c) i final t s roots =
      rw total (takes_then (takes_walk final 0 (draw hash t (index_bits p) i) anything s roots) (takes_queries c (suc i) final t s roots))
    where
      total : suc c * query_length p 0 (length roots) ≡ query_length p 0 (length roots) + c * query_length p 0 (length roots)
      total = suc-mul c (query_length p 0 (length roots)) ∙ omega arith

  takes_sections : (s : Digest) → Takes (sections hash p s) (file_length p) Any
  unfolding sections file_length queries_offset
  takes_sections s =
      subst (λ w. Takes (sections hash p s) w Any) (omega arith)
      (takes_then (takes_count header_size) (takes_bind _ (takes_bytes header_size) (λ parameters _. takes_then (takes_ensure _ parameters_differ (omega arith))
      (takes_then (takes_count p.k) (takes_bind _ (takes_many p.k (takes_bytes 32)) (λ roots e. takes_then (takes_count (final_count p))
      (takes_bind _ (takes_many (final_count p) takes_number) (λ final _. takes_then (takes_count p.q)
      (rw e at (takes_queries p.q 0 final (absorb_final hash (absorbed hash s roots) final) s roots))))))))))

  -- From any first transcript, and so of the judgement.
  pub sections_width : (s : Digest) → Width (sections hash p s (λ _. done)) (file_length p)
  sections_width s = (takes_sections s).width (λ _. done) 0 (file_length p) (omega arith) (λ _ _. ends)

  pub judgement_width : (context : List ℕ) → Width (judgement hash p context) (file_length p)
  unfolding judgement
  judgement_width context = sections_width (start hash (header p) context)

-- Of bytes that a process of width w judges, the end call accepts only w, and there.
pub accepts_width : (w : ℕ) (xs : List ℕ) (r : Result) (place : ℕ) → Extent w xs 0 r → end_answer r (length xs) ≡ answered accepted place
    → (r ≡ ended [] place) × (place ≡ w) × (length xs ≡ w)
unfolding end_answer
accepts_width w xs short place (few h) e = absurd (omega (arith, ap (λ u. u.number) e))
accepts_width w xs (refused c at) place (fault d h k l) e = absurd (omega (arith, ap (λ u. u.number) e))
accepts_width w xs (ended [] at) place (full h k) e = (ap (λ u. ended [] u) (ap (λ u. u.place) e), omega (arith, ap (λ u. u.place) e), omega arith)
accepts_width w xs (ended (y ∷ ys) at) place (full h k) e = absurd (omega (arith, ap (λ u. u.number) e))
