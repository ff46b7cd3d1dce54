-- The file's sections, put one after the other. Assumes nothing.
use Prim.Native.Nat.{ℕ, ◌+◌, ◌*◌, ◌-◌, ◌^◌, ◌≤◌}
use mathlib.Core.List.{List}
use mathlib.Core.Path.{◌≡◌, ap, ap₂, ◌∙◌}
use native.Mathlib.Omega.{arith}
use lib.ListN.{length, take}
use lib.Pow.{pow_mono}
use lib.Seq.{sets, length-sets, length-take-le}
use Rattle.sha256.specs.Sha256.{sha256}
use Rattle.sha256.proofs.HashLaws.{length-sha256, sha256-byte}
use Rattle.params.specs.declared.Params.{Params}
use Rattle.params.specs.Parameters.{Valid, header_size, header, final_count, root_count_offset, root_offset, final_count_offset, coefficient_offset, query_count_offset, queries_offset, file_length, if_valid}
use Rattle.params.proofs.ParameterLaws.{from_valid}
use Rattle.message.specs.Bytes.{le, words}
use Rattle.message.specs.Message.{Digest}
use Rattle.message.proofs.Bytes.{le-length}
use Rattle.message.proofs.MessageLaws.{words-length}
use Rattle.transcript.specs.Transcript.{start, absorb_final}
use Rattle.buffer.specs.Buffer.{put}
use Rattle.buffer.proofs.BufferLaws.{put-fits}
use Rattle.built.specs.Built.{built_file}
use Rattle.writer_model.specs.Buffers.{Buffers, buffers, head_in, queries_in, all_layered, begun, with_final, with_openings}
use Rattle.writer_model.proofs.Layers.{represents}
use Rattle.writer_model.proofs.File.{file_built}

-- The final coefficients stand within the numbers.
pub final_inside : (p : Params) (xs : List ℕ) → 2 * 2 ^ p.n ≤ length xs → final_count p ≤ length xs
unfolding final_count
final_inside p xs h =
    let small : 2 ^ (p.n - p.b - p.k) ≤ 2 ^ p.n = pow_mono (omega arith) in
    omega arith

coefficients_inside : (p : Params) → Valid p → 2 ^ (p.n - p.b) ≤ 2 ^ p.n
coefficients_inside p v = pow_mono (omega arith)

pub head_left : {b d₁ d₂ d₃ : List ℕ} (p : Params) (f : List ℕ) → root_offset 0 ≤ length f → b ≡ header p → d₁ ≡ put f 0 (le 2 header_size) → d₂ ≡ put d₁ 2 b
    → d₃ ≡ put d₂ root_count_offset (le 2 p.k)
    → d₃ ≡ head_in p f
head_left {b} {d₁} {d₂} {d₃} p f h e e₁ e₂ e₃ =
    let first : d₁ ≡ sets f 0 (le 2 header_size) = e₁ ∙ put-fits f 0 (le 2 header_size) (omega (arith, le-length 2 header_size)) in
    let long₁ : length d₁ ≡ length f = ap length first ∙ length-sets f 0 (le 2 header_size) in
    let second : d₂ ≡ sets d₁ 2 (header p) = e₂ ∙ ap (put d₁ 2) e ∙ put-fits d₁ 2 (header p) (omega arith) in
    let long₂ : length d₂ ≡ length d₁ = ap length second ∙ length-sets d₁ 2 (header p) in
    e₃ ∙ put-fits d₂ root_count_offset (le 2 p.k) (omega (arith, le-length 2 p.k)) ∙ ap (λ d. sets d root_count_offset (le 2 p.k)) (second ∙ ap (λ d. sets d 2 (header p)) first)

pub finish_left : {d₁ d₂ : List ℕ} {s₁ : Digest} {count at : ℕ} (p : Params) (s : Digest) (numbers f a : List ℕ) → Valid p → queries_offset p ≤ length f
    → count ≡ if_valid p (final_count p) → at ≡ final_count_offset p → d₁ ≡ put f at (le 2 count) → final_count p ≤ length numbers → d₂ ≡ put d₁ (at + 2) (words (take count numbers))
    → take count a ≡ take count numbers → s₁ ≡ absorb_final sha256 s (take count a)
    → (s₁ ≡ absorb_final sha256 s (take (final_count p) numbers))
    × (d₂ ≡ sets (sets f (final_count_offset p) (le 2 (final_count p))) (coefficient_offset p 0) (words (take (final_count p) numbers)))
unfolding queries_offset
finish_left {d₁} {d₂} {s₁} {count} {at} p s numbers f a v h e e₀ e₁ enough e₂ e₃ e₄ =
    let full : count ≡ final_count p = from_valid p (final_count p) v e in
    let first : d₁ ≡ sets f (final_count_offset p) (le 2 (final_count p)) = e₁ ∙ put-fits f at (le 2 count) (omega (arith, le-length 2 count)) ∙ ap₂ (λ i c. sets f i (le 2 c)) e₀ full in
    let there : at + 2 ≡ coefficient_offset p 0 = omega arith in
    let long : length (words (take count numbers)) ≡ 4 * count = words-length (take count numbers) ∙ ap (λ k. 4 * k) (length-take-le count numbers (omega arith)) in
    let same : length d₁ ≡ length f = ap length first ∙ length-sets f (final_count_offset p) (le 2 (final_count p)) in (
      e₄ ∙ ap (absorb_final sha256 s) (e₃ ∙ ap (λ c. take c numbers) full),
      e₂ ∙ put-fits d₁ (at + 2) (words (take count numbers)) (omega arith) ∙ ap₂ (λ d i. sets d i (words (take count numbers))) first there ∙ ap (λ c. sets (sets f (final_count_offset p) (le 2 (final_count p))) (coefficient_offset p 0) (words (take c numbers))) full,
    )

pub openings_left : {d₁ d₂ : List ℕ} {count at : ℕ} (p : Params) (s : Digest) (numbers bytes f : List ℕ) → Valid p → file_length p ≤ length f
    → count ≡ if_valid p (query_count_offset p) → at ≡ if_valid p (queries_offset p)
    → d₁ ≡ put f count (le 2 p.q) → d₂ ≡ sets d₁ at (queries_in p sha256 s numbers bytes)
    → d₂ ≡ sets (sets f (query_count_offset p) (le 2 p.q)) (queries_offset p) (queries_in p sha256 s numbers bytes)
unfolding queries_offset file_length
openings_left {d₁} {d₂} {count} {at} p s numbers bytes f v h e₀ e e₁ e₂ =
    let there : count ≡ query_count_offset p = from_valid p _ v e₀ in
    let first : d₁ ≡ sets f (query_count_offset p) (le 2 p.q) =
    e₁ ∙ put-fits f count (le 2 p.q) (omega (arith, le-length 2 p.q)) ∙ ap (λ i. sets f i (le 2 p.q)) there in
    e₂ ∙ ap₂ (λ d i. sets d i (queries_in p sha256 s numbers bytes)) first (from_valid p _ v e)

-- The whole: the model's start, its layers and its end are the built file.
pub file-left : {n₁ n₂ b₁ f₁ f₂ f₃ f₄ : List ℕ} {s₀ s₁ s₂ : Digest} (p : Params) (context c numbers bytes f : List ℕ) → Valid p → length c ≡ 2 ^ (p.n - p.b)
    → 2 * 2 ^ p.n ≤ length numbers → 64 * 2 ^ p.n ≤ length bytes → length f ≡ file_length p → n₁ ≡ put numbers 0 c
    → f₁ ≡ head_in p f → s₀ ≡ start sha256 (header p) context
    → s₁ ≡ (all_layered p sha256 p.k (buffers n₁ bytes f₁ s₀)).state → n₂ ≡ (all_layered p sha256 p.k (buffers n₁ bytes f₁ s₀)).numbers
    → b₁ ≡ (all_layered p sha256 p.k (buffers n₁ bytes f₁ s₀)).bytes → f₂ ≡ (all_layered p sha256 p.k (buffers n₁ bytes f₁ s₀)).file
    → s₂ ≡ absorb_final sha256 s₁ (take (final_count p) n₂)
    → f₃ ≡ sets (sets f₂ (final_count_offset p) (le 2 (final_count p))) (coefficient_offset p 0) (words (take (final_count p) n₂))
    → f₄ ≡ sets (sets f₃ (query_count_offset p) (le 2 p.q)) (queries_offset p) (queries_in p sha256 s₂ n₂ b₁)
    → f₄ ≡ built_file sha256 p context c
unfolding begun with_openings with_final
file-left {n₁} {n₂} {b₁} {f₁} {f₂} {f₃} {f₄} {s₀} {s₁} {s₂} p context c numbers bytes f v full long room size e₁ e₂ e₃ e₄ e₅ e₆ e₇ e₈ e₉ e₁₀ =
    done ∙ file_built sha256 length-sha256 sha256-byte p context c f v full size w (represents sha256 length-sha256 p context c numbers bytes f v full long room p.k (omega arith))
  where
    first : n₁ ≡ sets numbers 0 c
    first = e₁ ∙ put-fits numbers 0 c (omega (arith, coefficients_inside p v))

    begin : buffers n₁ bytes f₁ s₀ ≡ begun p sha256 context c numbers bytes f
    begin = rw (first, e₂, e₃)

    w : Buffers
    w = all_layered p sha256 p.k (begun p sha256 context c numbers bytes f)

    on : {A : Type 0} {x : A} (part : Buffers → A) → x ≡ part (all_layered p sha256 p.k (buffers n₁ bytes f₁ s₀)) → x ≡ part w
    on part e = e ∙ ap (λ u. part (all_layered p sha256 p.k u)) begin

    done : f₄ ≡ with_openings p sha256 w
    done = rw (e₁₀, e₉, e₈, on (λ u. u.file) e₇, on (λ u. u.state) e₄, on (λ u. u.numbers) e₅, on (λ u. u.bytes) e₆)
