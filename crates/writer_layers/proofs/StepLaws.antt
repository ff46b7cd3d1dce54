-- One layer of the writer, and all of them: the buffers are those of the model. Assumes nothing.
use Prim.Native.Nat.{ℕ, ◌+◌, ◌≤◌, ◌<◌}
use mathlib.Core.List.{List}
use mathlib.Core.Path.{◌≡◌, refl, sym, ap, ap₂, ◌∙◌}
use native.Mathlib.Numerals.{add-one}
use native.Mathlib.Omega.{arith}
use lib.ListN.{length}
use lib.Seq.{sets}
use Rattle.sha256.specs.Sha256.{sha256}
use Rattle.params.specs.declared.Params.{Params}
use Rattle.params.specs.Parameters.{root_offset, final_count_offset}
use Rattle.message.specs.Message.{Digest}
use Rattle.transcript.specs.Transcript.{absorb, challenge}
use Rattle.buffer.specs.Buffer.{put}
use Rattle.buffer.proofs.BufferLaws.{put-fits}
use Rattle.writer_model.specs.Buffers.{Buffers, buffers, with_values, with_fold, tree_start, tree_in, root_in, committed, layered, all_layered}

-- What the calls of one layer leave, one after the other.
pub layer-left : {n₁ n₂ b₁ f₁ : List ℕ} {s₁ r : Digest} {β at : ℕ} (p : Params) (j : ℕ) (n b f : List ℕ) (s : Digest) → j < p.k → final_count_offset p ≤ length f → length r ≡ 32
    → n₁ ≡ with_values p j n → r ≡ root_in p sha256 j n₁ → b₁ ≡ sets b (tree_start p j) (tree_in p sha256 j n₁)
    → at ≡ root_offset j → f₁ ≡ put f at r
    → s₁ ≡ absorb sha256 s r → β ≡ challenge sha256 s₁ → n₂ ≡ with_fold p j β n₁
    → (s₁ ≡ (layered p sha256 j (buffers n b f s)).state)
    × ((n₂ ≡ (layered p sha256 j (buffers n b f s)).numbers)
    × ((b₁ ≡ (layered p sha256 j (buffers n b f s)).bytes)
    × (f₁ ≡ (layered p sha256 j (buffers n b f s)).file)))
unfolding layered committed
layer-left {n₁} {n₂} {b₁} {f₁} {s₁} {r} {β} {at} p j n b f s h fits long e₁ e₂ e₃ e₀ e₄ e₅ e₆ e₇ =
    let root : r ≡ root_in p sha256 j (with_values p j n) = e₂ ∙ ap (root_in p sha256 j) e₁ in
    let state : s₁ ≡ absorb sha256 s (root_in p sha256 j (with_values p j n)) = e₅ ∙ ap (absorb sha256 s) root in (
      state,
      (
        e₇ ∙ ap₂ (λ x y. with_fold p j x y) (e₆ ∙ ap (challenge sha256) state) e₁,
        (e₃ ∙ ap (λ x. sets b (tree_start p j) (tree_in p sha256 j x)) e₁, e₄ ∙ put-fits f at r (omega arith) ∙ ap₂ (sets f) e₀ root),
      ),
    )

-- The buffers after j layers, and one layer more.
pub record After (p : Params) (w : Buffers) (j : ℕ) (numbers bytes file : List ℕ) (state : Digest) : Type 0 where
  pub numbers_are : numbers ≡ (all_layered p sha256 j w).numbers
  pub bytes_are : bytes ≡ (all_layered p sha256 j w).bytes
  pub file_is : file ≡ (all_layered p sha256 j w).file
  pub state_is : state ≡ (all_layered p sha256 j w).state

pub after_none : (p : Params) (numbers bytes file : List ℕ) (state : Digest) → After p (buffers numbers bytes file state) 0 numbers bytes file state
unfolding all_layered
after_none p numbers bytes file state = record { numbers_are = refl; bytes_are = refl; file_is = refl; state_is = refl }

pub after_more : {n n₁ b b₁ f f₁ : List ℕ} {s s₁ : Digest} (p : Params) (w : Buffers) (j : ℕ) → After p w j n b f s
    → s₁ ≡ (layered p sha256 j (buffers n b f s)).state → n₁ ≡ (layered p sha256 j (buffers n b f s)).numbers
    → b₁ ≡ (layered p sha256 j (buffers n b f s)).bytes → f₁ ≡ (layered p sha256 j (buffers n b f s)).file → After p w (j + 1) n₁ b₁ f₁ s₁
unfolding all_layered
after_more {n} {n₁} {b} {b₁} {f} {f₁} {s} {s₁} p w j a es en eb ef =
    record { numbers_are = on (λ x. x.numbers) en; bytes_are = on (λ x. x.bytes) eb; file_is = on (λ x. x.file) ef; state_is = on (λ x. x.state) es }
  where
    before : buffers n b f s ≡ all_layered p sha256 j w
    before = rw (a.numbers_are, a.bytes_are, a.file_is, a.state_is)

    on : {A : Type 0} {x : A} (part : Buffers → A) → x ≡ part (layered p sha256 j (buffers n b f s)) → x ≡ part (all_layered p sha256 (j + 1) w)
    on part e = e ∙ ap (λ u. part (layered p sha256 j u)) before ∙ ap (λ k. part (all_layered p sha256 k w)) (sym (add-one j))
