-- A run of a process through bytes lo to hi of a file, and the faults that are due there. Assumes nothing.
use Prim.Native.Nat.{ℕ, zero, suc, ◌+◌, ◌≤◌, ◌<◌}
use mathlib.Core.Bool.{Bool, true, false}
use mathlib.Core.List.{List, ◌∷◌}
use mathlib.Core.Path.{◌≡◌, refl, sym, ◌∙◌}
use native.Mathlib.Omega.{arith}
use lib.Dec.{leb}
use lib.ListN.{length, drop, length-drop}
use lib.Seq.{drop-drop}
use borrow.Author.Tests.{leb-true, leb-false}
use Rattle.message.specs.Bytes.{part}
use Rattle.fri.specs.Process.{Process, Result, Parser, left, outcome, run, ensure, many, pure, ◌>>=◌, need, short, refused}
use Rattle.message.specs.Lists.{tabulate}
use Rattle.fri.proofs.Process.{left_enough, left-few}
use Rattle.rules.proofs.Faults.{Faults, None, One, Either, Some, cases, Before, First, one, some_split, some_join, left as in_first, right as in_second, same, earlier}

-- The result r at byte lo, by the result rest at byte hi: with no fault the run goes on; else it stops at the first one that is there; or the bytes end
-- before hi with no fault so far.
pub data Goes (file : List ℕ) (F : Faults) (hi : ℕ) (r rest : Result) : Type 0 where
  passes : hi ≤ length file → ((c d : ℕ) → F c d → ⊥) → r ≡ rest → Goes file F hi r rest
  stops : {c d : ℕ} → F c d → d ≤ length file → First F c d → r ≡ refused c d → Goes file F hi r rest
  waits : length file < hi → ((c d : ℕ) → d ≤ length file → F c d → ⊥) → r ≡ short → Goes file F hi r rest

pub record Step (file : List ℕ) (F : Faults) (lo hi : ℕ) (r rest : Result) : Type 0 where
  pub forward : lo ≤ hi
  pub within : (c d : ℕ) → F c d → (lo < d) × (d ≤ hi)
  pub goes : lo ≤ length file → Goes file F hi r rest

-- From the process q at byte lo to the process q' at byte hi.
abbrev pub Through : List ℕ → Faults → ℕ → ℕ → Process → Process → Type 0
Through file F lo hi q q' = Step file F lo hi (run q (drop lo file) lo) (run q' (drop hi file) hi)

module _ {file : List ℕ} where
  -- The same faults, said in another way.
  pub restated : {F G : Faults} {lo hi : ℕ} {r rest : Result} → ((c d : ℕ) → F c d → G c d) → ((c d : ℕ) → G c d → F c d)
      → Step file F lo hi r rest → Step file G lo hi r rest
  restated {F} {G} {lo} {hi} {r} {rest} f g s =
      record { forward = s.forward; within = λ c d h. s.within c d (g c d h); goes = λ l. by (s.goes l) }
    where
      by : Goes file F hi r rest → Goes file G hi r rest
      by (passes h n e) = passes h (λ c d x. n c d (g c d x)) e
      by (stops {c} {d} h l n e) = stops (f c d h) l (λ c' d' x. n c' d' (g c' d' x)) e
      by (waits h n e) = waits h (λ c d l x. n c d l (g c d x)) e

  -- One part after another, where the later faults are after the earlier ones.
  goes_on : {F G : Faults} {mid hi : ℕ} {r s t : Result} → mid ≤ hi → ((c d : ℕ) → G c d → mid ≤ d)
      → ((c d c' d' : ℕ) → F c d → G c' d' → Before c d c' d')
      → Goes file F mid r s → (mid ≤ length file → Goes file G hi s t) → Goes file (Either F G) hi r t
  goes_on {F} {G} {mid} {hi} {r} {s} {t} up later order x y = by x
    where
      on : ((c d : ℕ) → F c d → ⊥) → r ≡ s → Goes file G hi s t → Goes file (Either F G) hi r t
      on n e (passes h m f) = passes h (λ c d. cases (n c d) (m c d)) (e ∙ f)
      on n e (stops h l m f) = stops (in_second h) l (λ c d. cases (λ g. absurd (n c d g)) (m c d)) (e ∙ f)
      on n e (waits h m f) = waits h (λ c d l. cases (n c d) (m c d l)) (e ∙ f)

      by : Goes file F mid r s → Goes file (Either F G) hi r t
      by (passes h n e) = on n e (y h)
      by (stops {c} {d} f l n e) = stops (in_first f) l (λ c' d'. cases (n c' d') (order c d c' d' f)) e
      by (waits h n e) = waits (omega arith) (λ c d l. cases (n c d l) (λ g. omega (arith, later c d g))) e

  -- One step after another.
  pub then : {F G : Faults} {lo mid hi : ℕ} {r s t : Result} → Step file F lo mid r s → Step file G mid hi s t → Step file (Either F G) lo hi r t
  then x y =
      record {
        forward = omega (arith, x.forward, y.forward);
        within = λ c d. cases (λ h. omega (arith, x.within c d h, y.forward)) (λ h. omega (arith, y.within c d h, x.forward));
        goes = λ l.
            goes_on y.forward (λ c d g. omega (arith, y.within c d g))
            (λ c d c' d' f g. earlier (omega (arith, x.within c d f, y.within c' d' g))) (x.goes l) y.goes;
      }

  -- The same after a step with no fault.
  pub only : {F : Faults} {lo hi : ℕ} {r rest : Result} → Step file (Either None F) lo hi r rest → Step file F lo hi r rest
  only x = restated (λ c d. cases absurd (λ h. h)) (λ c d h. in_second h) x

  -- A test after a step, at its last byte: one fault more, after those of the step.
  pub tested : {F : Faults} {lo hi : ℕ} {r : Result} (k : Unit {0} → Process) (P : Type 0) (b : Bool) (c : ℕ) → lo < hi
      → (b ≡ true → P → ⊥) → (b ≡ false → P) → ((c' d' : ℕ) → F c' d' → Before c' d' c hi)
      → Step file F lo hi r (run (ensure b c k) (drop hi file) hi) → Step file (Either F (One P c hi)) lo hi r (run (k tt) (drop hi file) hi)
  unfolding run left outcome ensure
  tested {hi = hi} k P b c far good bad order x =
      record {
        forward = x.forward;
        within = λ c' d'. cases (x.within c' d') (λ h. omega (arith, h.by_place));
        goes = λ l.
            goes_on (omega arith) (λ c' d' h. omega (arith, h.by_place))
            (λ c' d' c'' d'' f h. rw (h.by_number, h.by_place) (order c' d' f)) (x.goes l) (by b good bad);
      }
    where
      by : (b : Bool) → (b ≡ true → P → ⊥) → (b ≡ false → P) → hi ≤ length file
          → Goes file (One P c hi) hi (run (ensure b c k) (drop hi file) hi) (run (k tt) (drop hi file) hi)
      by true good bad l = passes l (λ c' d' h. good refl h.due) refl
      by false good bad l = stops (one (bad refl)) l (λ c' d' h. same (sym h.by_number) (sym h.by_place)) refl

  -- No bytes.
  none_taken : {F : ℕ → Faults} (lo : ℕ) (r : Result) → Step file (Some F 0) lo lo r r
  none_taken lo r =
      record { forward = omega arith; within = λ c d h. absurd (omega (arith, h.below)); goes = λ l. passes l (λ c d h. omega (arith, h.below)) refl }

  -- The next w bytes.
  pub bytes-taken : (w lo hi : ℕ) (k : List ℕ → Process) → hi ≡ lo + w
      → Through file None lo hi (need w k) (k (part lo w file))
  unfolding run outcome part
  bytes-taken w lo hi k e = record { forward = omega arith; within = λ c d h. absurd h; goes = λ l. by l (leb w (length (drop lo file))) refl }
    where
      by : lo ≤ length file → (b : Bool) → leb w (length (drop lo file)) ≡ b
          → Goes file None hi (run (need w k) (drop lo file) lo) (run (k (part lo w file)) (drop hi file) hi)
      by l true t =
          let h : w ≤ length (drop lo file) = leb-true w (length (drop lo file)) t in
          let there : hi ≤ length file = omega (arith, length-drop lo file) in
          passes there (λ c d x. x) (rw (left_enough w k (drop lo file) lo h, drop-drop w lo file, e))
      by l false t =
          let h : length (drop lo file) < w = leb-false w (length (drop lo file)) t in
          let short-of : length file < hi = omega (arith, length-drop lo file) in
          waits short-of (λ c d l x. x) (rw (left-few w k (drop lo file) lo h))

  -- Steps in a row.
  pub in_a_row : (n : ℕ) (F : ℕ → Faults) (at : ℕ → ℕ) (q : ℕ → Process)
      → ((t : ℕ) → t < n → Through file (F t) (at t) (at (suc t)) (q t) (q (suc t))) → Through file (Some F n) (at 0) (at n) (q 0) (q n)
  in_a_row zero F at q each = none_taken (at 0) _
  in_a_row (suc n) F at q each =
      restated (λ c d. some_join) (λ c d. some_split)
      (then (each 0 (omega arith)) (in_a_row n (λ t. F (suc t)) (λ t. at (suc t)) (λ t. q (suc t)) (λ t h. each (suc t) (omega arith))))

  -- The same parser, n times.
  pub many-taken : {A : Type 0} (n : ℕ) (p : Parser A) (F : ℕ → Faults) (at : ℕ → ℕ) (g : ℕ → A) (k : List A → Process)
      → ((t : ℕ) → t < n → (l : A → Process) → Through file (F t) (at t) (at (suc t)) (p l) (l (g t)))
      → Through file (Some F n) (at 0) (at n) (many n p k) (k (tabulate n g))
  unfolding many pure ◌>>=◌ tabulate
  many-taken zero p F at g k each = none_taken (at 0) _
  many-taken (suc n) p F at g k each =
      restated (λ c d. some_join) (λ c d. some_split)
      (then (each 0 (omega arith) _)
      (many-taken n p (λ t. F (suc t)) (λ t. at (suc t)) (λ t. g (suc t)) (λ rest. k (g 0 ∷ rest)) (λ t h. each (suc t) (omega arith))))
