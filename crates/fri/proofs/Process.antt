-- Laws of processes: bytes in two pieces, the bytes that a part reads as a value, and how many bytes it takes. Assumes nothing.
use Prim.Native.Nat.{ℕ, zero, suc, ◌+◌, ◌*◌, ◌<◌, ◌≤◌}
use mathlib.Core.Bool.{Bool, true, false}
use mathlib.Core.List.{List, [], ◌∷◌, ◌++◌, append_assoc, append-nil, map}
use mathlib.Core.Path.{◌≡◌, refl, ap, sym, ◌∙◌, ap₂, subst}
use native.Mathlib.Nat.{add-zero, add_assoc, zero-mul, suc-mul}
use native.Mathlib.Omega.{arith}
use lib.Dec.{leb}
use lib.ListN.{length, get_or, take, drop, length-append, length-take, length-drop}
use lib.Seq.{take_at, drop_at, take-append-le, drop-append-le}
use borrow.Author.Tests.{le-leb, lt-leb, leb-true, leb-false}
use Rattle.message.specs.Bytes.{joined}
use Rattle.fri.specs.Process.{Process, Result, Left, left, outcome, run, Parser, pure, ◌>>=◌, ◌>>◌, bytes, ensure, many, done, fail, need, short, refused, ended}

-- A process that wants bytes takes them if they are there, and else waits.
pub left_enough : (w : ℕ) (k : List ℕ → Process) (xs : List ℕ) (at : ℕ) → w ≤ length xs
    → left (need w k) xs at ≡ left (k (take w xs)) (drop w xs) (at + w)
unfolding left
left_enough w k xs at h = rw (le-leb w (length xs) h, left)

pub left-few : (w : ℕ) (k : List ℕ → Process) (xs : List ℕ) (at : ℕ) → length xs < w
    → left (need w k) xs at ≡ record { process = need w k; held = xs; place = at }
unfolding left
left-few w k xs at h = rw (lt-leb w (length xs) h, left)

-- Bytes in two pieces: what is left after the first goes on with the second.
pub left-append : (p : Process) (xs ys : List ℕ) (at : ℕ)
    → left p (xs ++ ys) at ≡ left (left p xs at).process ((left p xs at).held ++ ys) (left p xs at).place
unfolding left
left-append done xs ys at = refl
left-append (fail c) xs ys at = refl
left-append (need w k) xs ys at = by (left-append (k (take w xs)) (drop w xs) ys (at + w)) (leb w (length xs)) refl
  where
    after : Left → Left
    after l = left l.process (l.held ++ ys) l.place

    by : left (k (take w xs)) (drop w xs ++ ys) (at + w) ≡ after (left (k (take w xs)) (drop w xs) (at + w))
        → (b : Bool) → leb w (length xs) ≡ b → left (need w k) (xs ++ ys) at ≡ after (left (need w k) xs at)
    by ih false t = rw (left-few w k xs at (leb-false w (length xs) t))
    by ih true t =
        let h : w ≤ length xs = leb-true w (length xs) t in
        left_enough w k (xs ++ ys) at (omega (arith, length-append xs ys))
        ∙ ap₂ (λ u v. left (k u) v (at + w)) (take-append-le w xs ys h) (drop-append-le w xs ys h)
        ∙ ih
        ∙ ap after (sym (left_enough w k xs at h))

left-need : (w : ℕ) (k : List ℕ → Process) (xs rest : List ℕ) (at : ℕ) → length xs ≡ w
    → left (need w k) (xs ++ rest) at ≡ left (k xs) rest (at + w)
left-need w k xs rest at e =
    left_enough w k (xs ++ rest) at (omega (arith, length-append xs rest))
    ∙ ap₂ (λ u v. left (k u) v (at + w)) (take_at xs rest w e) (drop_at xs rest w e)

-- p reads exactly the bytes xs, as the value a.
pub record Reads {A : Type 0} (p : Parser A) (xs : List ℕ) (a : A) : Type 0 where
  pub reads : (k : A → Process) (rest : List ℕ) (at : ℕ) → left (p k) (xs ++ rest) at ≡ left (k a) rest (at + length xs)

pub reads_pure : {A : Type 0} (a : A) → Reads (pure a) [] a
unfolding pure
reads_pure a = record { reads = λ k rest at. ap (λ u. left (k a) rest u) (sym (add-zero at)) }

pub reads_bind : {A B : Type 0} {p : Parser A} {xs ys : List ℕ} {a : A} {b : B} (f : A → Parser B)
    → Reads p xs a → Reads (f a) ys b → Reads (p >>= f) (xs ++ ys) b
unfolding ◌>>=◌
reads_bind {p = p} {xs = xs} {ys = ys} {a = a} {b = b} f r t =
    record {
      reads = λ k rest at.
          ap (λ u. left (p (λ c. f c k)) u at) (append_assoc xs ys rest)
          ∙ r.reads (λ c. f c k) (ys ++ rest) at
          ∙ t.reads k rest (at + length xs)
          ∙ ap (λ u. left (k b) rest u) (add_assoc at (length xs) (length ys) ∙ ap (λ u. at + u) (sym (length-append xs ys)));
    }

pub reads_bytes : (xs : List ℕ) (w : ℕ) → length xs ≡ w → Reads (bytes w) xs xs
unfolding bytes
reads_bytes xs w e = record { reads = λ k rest at. left-need w k xs rest at e ∙ ap (λ u. left (k xs) rest (at + u)) (sym e) }

pub reads_test : {A : Type 0} {p : Parser A} {xs : List ℕ} {a : A} (b : Bool) (c : ℕ) → b ≡ true → Reads p xs a → Reads (ensure b c >> p) xs a
unfolding ensure ◌>>◌
reads_test {p = p} {xs = xs} b c e r = record { reads = λ k rest at. ap (λ u. left ((ensure u c >> p) k) (xs ++ rest) at) e ∙ r.reads k rest at }

pub reads_ensure : (b : Bool) (c : ℕ) → b ≡ true → Reads (ensure b c) [] tt
unfolding ensure
reads_ensure b c e = record { reads = λ k rest at. ap (λ u. left (ensure u c k) rest at) e ∙ ap (λ u. left (k tt) rest u) (sym (add-zero at)) }

pub reads_then : {B : Type 0} {p : Parser (Unit {0})} {q : Parser B} {xs ys : List ℕ} {b : B}
    → Reads p xs tt → Reads q ys b → Reads (p >> q) (xs ++ ys) b
unfolding ◌>>◌ ◌>>=◌
reads_then {q = q} r t = reads_bind (λ _. q) r t

pub reads_last : {A B : Type 0} {p : Parser A} {xs : List ℕ} {a : A} {b : B} (f : A → Parser B)
    → Reads p xs a → Reads (f a) [] b → Reads (p >>= f) xs b
reads_last {xs = xs} f r t = rw append-nil at (reads_bind f r t)

-- As many values as the list has, each read from its own bytes.
pub reads_many : {A : Type 0} {p : Parser A} (encoding : A → List ℕ) (d : A) (values : List A)
    → ((t : ℕ) → t < length values → Reads p (encoding (get_or values t d)) (get_or values t d))
    → Reads (many (length values) p) (joined (map encoding values)) values
unfolding many joined
reads_many encoding d [] each = reads_pure []
reads_many encoding d (a ∷ rest) each =
    reads_bind _ (each 0 (omega arith)) (reads_last _ (reads_many encoding d rest (λ t h. each (suc t) (omega arith))) (reads_pure (a ∷ rest)))

-- The process ends after w bytes, or refuses, with a number from 20 on, within them.
pub data Width : Process → ℕ → Type 0 where
  ends : Width done 0
  fails : {c w : ℕ} → 20 ≤ c → Width (fail c) w
  needs : {v u w : ℕ} {k : List ℕ → Process} → w ≡ v + u → ((bs : List ℕ) → length bs ≡ v → Width (k bs) u) → Width (need v k) w

-- What bytes come to, for a process of width w: fewer than w are too few, a refusal lies within w and within what is there, and the
-- end leaves the rest.
pub data Extent (w : ℕ) (xs : List ℕ) (at : ℕ) : Result → Type 0 where
  few : length xs < w → Extent w xs at short
  fault : {c place : ℕ} → 20 ≤ c → at ≤ place → place ≤ at + length xs → place ≤ at + w → Extent w xs at (refused c place)
  full : {rest : List ℕ} {place : ℕ} → length rest + w ≡ length xs → place ≡ at + w → Extent w xs at (ended rest place)

shift : {r : Result} {xs rest : List ℕ} {at u : ℕ} (v w : ℕ) → w ≡ v + u → length rest + v ≡ length xs → Extent u rest (at + v) r → Extent w xs at r
shift v w e h (few i) = few (omega arith)
shift v w e h (fault {place = place} d i j l) = fault {place = place} d (omega arith) (omega arith) (omega arith)
shift v w e h (full {rest = rest} {place = place} i j) = full {rest = rest} {place = place} (omega arith) (omega arith)

pub extent : {p : Process} {w : ℕ} → Width p w → (xs : List ℕ) (at : ℕ) → Extent w xs at (run p xs at)
unfolding run left outcome
extent ends xs at = full {rest = xs} {place = at} (omega arith) (omega arith)
extent (fails h) xs at = fault {place = at} h (omega arith) (omega arith) (omega arith)
extent {w = w} (needs {v = v} {u = u} {k = k} e f) xs at = by (λ h. extent (f (take v xs) h) (drop v xs) (at + v)) (leb v (length xs)) refl
  where
    by : (length (take v xs) ≡ v → Extent u (drop v xs) (at + v) (run (k (take v xs)) (drop v xs) (at + v)))
        → (b : Bool) → leb v (length xs) ≡ b → Extent w xs at (run (need v k) xs at)
    by ih false t =
        let h : length xs < v = leb-false v (length xs) t in
        rw (left-few v k xs at h) (few (omega arith))
    by ih true t =
        let h : v ≤ length xs = leb-true v (length xs) t in
        rw (left_enough v k xs at h) (shift v w e (omega (arith, length-drop v xs)) (ih (omega (arith, length-take v xs))))

-- Of a value nothing is asked.
abbrev pub Any : {A : Type 0} → A → Type 0
Any a = Unit {0}

-- p takes w bytes and hands on a value with the property P.
pub record Takes {A : Type 0} (p : Parser A) (w : ℕ) (P : A → Type 0) : Type 0 where
  pub width : (k : A → Process) (u n : ℕ) → n ≡ w + u → ((a : A) → P a → Width (k a) u) → Width (p k) n

pub takes_pure : {A : Type 0} {P : A → Type 0} (a : A) → P a → Takes (pure a) 0 P
unfolding pure
takes_pure a h = record { width = λ k u n e f. subst (λ i. Width (k a) i) (omega arith) (f a h) }

pub takes_bind : {A B : Type 0} {P : A → Type 0} {Q : B → Type 0} {p : Parser A} {w u : ℕ} (f : A → Parser B)
    → Takes p w P → ((a : A) → P a → Takes (f a) u Q) → Takes (p >>= f) (w + u) Q
unfolding ◌>>=◌
takes_bind {u = u} f r s = record { width = λ k t n e g. r.width (λ a. f a k) (u + t) n (omega arith) (λ a h. (s a h).width k t (u + t) refl g) }

pub takes_then : {B : Type 0} {P : Unit {0} → Type 0} {Q : B → Type 0} {p : Parser (Unit {0})} {q : Parser B} {w u : ℕ}
    → Takes p w P → Takes q u Q → Takes (p >> q) (w + u) Q
unfolding ◌>>◌ ◌>>=◌
takes_then {q = q} r s = takes_bind (λ _. q) r (λ _ _. s)

pub takes_bytes : (w : ℕ) → Takes (bytes w) w (λ bs. length bs ≡ w)
unfolding bytes
takes_bytes w = record { width = λ k u n e f. needs e f }

pub takes_ensure : (b : Bool) (c : ℕ) → 20 ≤ c → Takes (ensure b c) 0 Any
unfolding ensure
takes_ensure true c h = record { width = λ k u n e f. subst (λ i. Width (k tt) i) (omega arith) (f tt tt) }
takes_ensure false c h = record { width = λ k u n e f. fails h }

pub takes_many : {A : Type 0} {P : A → Type 0} {p : Parser A} {w : ℕ} (c : ℕ) → Takes p w P → Takes (many c p) (c * w) (λ vs. length vs ≡ c)
unfolding many
takes_many zero r = rw zero-mul (takes_pure [] refl)
takes_many {w = w} (suc c) r = rw total (takes_bind _ r (λ a h. takes_bind _ (takes_many c r) (λ rest e. takes_pure (a ∷ rest) (ap suc e))))
  where
    total : suc c * w ≡ w + (c * w + 0)
    total = suc-mul c w ∙ omega arith
