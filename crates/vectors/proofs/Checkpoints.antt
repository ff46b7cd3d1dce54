-- A checkpoint more: its line, and the next seed.
-- Assumes nothing.
use Rattle.std.proofs.Common.{◌≡◌, ℕ, zero, suc, ◌+◌, List, ◌++◌, add-one, refl, sym, ap, ◌∙◌, append-nil, append_assoc, subst}
use Rattle.std.specs.declared.option.Option.{Option}
use Rattle.std.specs.Io.KnownBytes.{Appends}
use Rattle.std.proofs.KnownBytes.{Appends-nil, Appends-trans}
use Rattle.vectors.specs.Monte.{checkpoint}
use Rattle.vectors.specs.Lines.{digest_line, checkpoint_lines}

-- The seed after n checkpoints.
abbrev pub after : ℕ → List ℕ → List ℕ
after zero seed = seed
after (suc n) seed = after n (checkpoint seed)

after_more : (n : ℕ) (seed : List ℕ) → after (suc n) seed ≡ checkpoint (after n seed)
after_more zero seed = refl
after_more (suc n) seed = after_more n (checkpoint seed)

lines_more : (n : ℕ) (seed : List ℕ) → checkpoint_lines (suc n) seed ≡ checkpoint_lines n seed ++ digest_line (checkpoint (after n seed))
lines_more zero seed = append-nil (digest_line (checkpoint seed))
lines_more (suc n) seed =
    let line = digest_line (checkpoint seed) in
    ap (λ l. line ++ l) (lines_more n (checkpoint seed)) ∙ sym (append_assoc line (checkpoint_lines n (checkpoint seed)) _)

-- From the first seed to this one so many lines were written.
pub record Told (old new : Option (List ℕ)) (first now : List ℕ) (n : ℕ) : Type 0 where
  pub wrote : Appends old new (checkpoint_lines n first)
  pub reached : now ≡ after n first

pub told_none : (old : Option (List ℕ)) (seed : List ℕ) → Told old old seed seed 0
told_none old seed = record { wrote = Appends-nil old; reached = refl }

pub told_more : (old half new : Option (List ℕ)) (first now next : List ℕ) (n : ℕ) → Told old half first now n → next ≡ checkpoint now
    → Appends half new (digest_line next) → Told old new first next (n + 1)
told_more old half new first now next n h e line =
    let at : next ≡ checkpoint (after n first) = e ∙ ap checkpoint h.reached in
    rw add-one
    (record {
      wrote = subst (Appends old new) (sym (lines_more n first))
          (Appends-trans old half new (checkpoint_lines n first) _ h.wrote (subst (λ d. Appends half new (digest_line d)) at line));
      reached = at ∙ sym (after_more n first);
    })
