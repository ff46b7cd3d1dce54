-- The judgement's parts as steps through a file: a count, a number, digests. Assumes nothing.
use Prim.Native.Nat.{ℕ, suc, ◌+◌, ◌*◌, ◌<◌}
use mathlib.Core.Bool.{Bool, true, false, false≢true}
use mathlib.Core.List.{List}
use mathlib.Core.Path.{◌≡◌, refl, sym, ◌∙◌}
use native.Mathlib.Nat.{add-zero}
use native.Mathlib.Omega.{arith}
use lib.Dec.{ltb, eqb}
use lib.ListN.{get_or}
use borrow.Author.Tests.{ltb-true, ltb-false, eqb-true, eqb-false}
use Rattle.answer.specs.Table.{count_differs, not_below_modulus}
use Rattle.field.specs.Modular.{p as modulus}
use Rattle.message.specs.Bytes.{num, part}
use Rattle.message.specs.Message.{Digest}
use Rattle.fri.specs.Process.{Process, bytes, many, pure, ◌>>=◌, ◌>>◌}
use Rattle.message.specs.Lists.{tabulate}
use Rattle.fri.specs.Judge.{same_bytes, count, number}
use Rattle.message.proofs.Tabulate.{tabulate_at}
use Rattle.fri.proofs.Same.{same_self}
use Rattle.rules.proofs.Faults.{None, One, Some}
use Rattle.rules.proofs.Steps.{Through, restated, only, tested, bytes-taken, many-taken}

-- A test that fails does not hold.
pub not_both : {b : Bool} → b ≡ true → b ≡ false → ⊥
not_both e f = false≢true (sym f ∙ e)

pub differ : (xs ys : List ℕ) → same_bytes xs ys ≡ false → xs ≡ ys → ⊥
differ xs ys f e = not_both (rw e (same_self ys)) f

module _ {file : List ℕ} where
  -- A count.
  pub count-taken : (c lo hi : ℕ) (k : Unit {0} → Process) → hi ≡ lo + 2
      → Through file (One (¬ (num (part lo 2 file) ≡ c)) count_differs hi) lo hi (count c k) (k tt)
  unfolding count bytes ◌>>=◌
  count-taken c lo hi k e =
      only (tested k _ (eqb (num (part lo 2 file)) c) count_differs (omega arith)
      (λ t n. n (eqb-true _ _ t)) (λ t. eqb-false _ _ t) (λ c d h. absurd h) (bytes-taken 2 lo hi _ e))

  -- The number v in the 4 bytes before place.
  pub number-taken : (lo hi place v : ℕ) (k : ℕ → Process) → hi ≡ lo + 4 → place ≡ hi → num (part lo 4 file) ≡ v
      → Through file (One (¬ (v < modulus)) not_below_modulus place) lo hi (number k) (k v)
  unfolding number bytes pure ◌>>=◌ ◌>>◌
  number-taken lo hi place v k e f g =
      rw (f, ← g)
      (only (tested (λ _. k (num (part lo 4 file))) _ (ltb (num (part lo 4 file)) modulus) not_below_modulus (omega arith)
      (λ t n. n (ltb-true _ _ t)) (λ t n. omega (arith, ltb-false (num (part lo 4 file)) modulus t)) (λ c d h. absurd h)
      (bytes-taken 4 lo hi _ e)))

  -- The numbers vs, which stand from byte lo on.
  pub numbers-taken : (n lo hi : ℕ) (vs : List ℕ) (k : List ℕ → Process) → hi ≡ lo + 4 * n → tabulate n (λ r. num (part (lo + 4 * r) 4 file)) ≡ vs
      → Through file (Some (λ r. One (¬ (get_or vs r 0 < modulus)) not_below_modulus (lo + 4 * r + 4)) n) lo hi (many n number k) (k vs)
  numbers-taken n lo hi vs k e f =
      let read : ℕ → ℕ = λ r. num (part (lo + 4 * r) 4 file) in
      rw (e, ← f)
      (rw (add-zero lo) at (many-taken {file = file} n number
      (λ r. One (¬ (get_or (tabulate n read) r 0 < modulus)) not_below_modulus (lo + 4 * r + 4)) (λ r. lo + 4 * r) read k
      (λ r h l.
      rw (tabulate_at n read r 0 h) (number-taken (lo + 4 * r) (lo + 4 * suc r) (lo + 4 * r + 4) _ l (omega arith) (omega arith) refl))))

  -- The digests ds, which stand from byte lo on.
  pub digests-taken : (n lo hi : ℕ) (ds : List Digest) (k : List Digest → Process) → hi ≡ lo + 32 * n
      → tabulate n (λ h. part (lo + 32 * h) 32 file) ≡ ds → Through file None lo hi (many n (bytes 32) k) (k ds)
  unfolding bytes
  digests-taken n lo hi ds k e f =
      rw (e, ← f)
      (restated (λ c d h. h.fault) (λ c d h. absurd h)
      (rw (add-zero lo) at (many-taken n (bytes 32) (λ _. None) (λ h. lo + 32 * h) (λ h. part (lo + 32 * h) 32 file) k
      (λ t h l. bytes-taken 32 (lo + 32 * t) (lo + 32 * suc t) l (omega arith)))))
