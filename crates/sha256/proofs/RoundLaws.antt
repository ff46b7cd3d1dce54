-- Laws of the rounds and of the schedule, for the loops that compute them.
-- Assumes nothing.
use mathlib.Core.Path.{◌≡◌, refl, sym, ap, ◌∙◌}
use mathlib.Core.List.{List, [], ◌∷◌}
use Prim.Native.Nat.{ℕ, zero, suc, ◌+◌, ◌-◌, ◌%◌, ◌^◌, ◌≤◌, ◌<◌}
use native.Mathlib.Nat.{add-zero, add-suc}
use native.Mathlib.Numerals.{add-one}
use native.Mathlib.Omega.{arith}
use lib.ListN.{length, get_or, length-append, get_or-append}
use lib.Seq.{get_or_at, ext_get_or}
use Rattle.sha256.specs.Words.{ch, maj, big_sigma0, big_sigma1, small_sigma0, small_sigma1}
use Rattle.sha256.specs.Constants.{round_constants}
use Rattle.sha256.specs.Private.{Extends, window, Turns}
use Rattle.sha256.specs.Sha256.{round, rounds, sum1, sum2, schedule, extend, next_word, add_words, compress, absorb, block}
use Rattle.sha256.proofs.Build.{length-build, get_d_build, sixteen}

-- five words added, one after the other
abbrev added : ℕ → ℕ → ℕ → ℕ → ℕ → ℕ
added a b c d e = ((((a + b) % 2 ^ 32 + c) % 2 ^ 32 + d) % 2 ^ 32 + e) % 2 ^ 32

added_sum : (a b c d e : ℕ) → added a b c d e ≡ (a + b + c + d + e) % 2 ^ 32
added_sum a b c d e = omega arith

-- a round, from its parts
pub round_is : (s : List ℕ) (k w : ℕ) {s1 c s0 m : ℕ} → s1 ≡ big_sigma1 (get_or s 4 0) → c ≡ ch (get_or s 4 0) (get_or s 5 0) (get_or s 6 0)
    → s0 ≡ big_sigma0 (get_or s 0 0) → m ≡ maj (get_or s 0 0) (get_or s 1 0) (get_or s 2 0)
    → ◌≡◌ {A = List ℕ}
    ((added (get_or s 7 0) s1 c k w + (s0 + m) % 2 ^ 32) % 2 ^ 32 ∷ get_or s 0 0 ∷ get_or s 1 0 ∷ get_or s 2 0
    ∷ (get_or s 3 0 + added (get_or s 7 0) s1 c k w) % 2 ^ 32 ∷ get_or s 4 0 ∷ get_or s 5 0 ∷ get_or s 6 0 ∷ []) (round s k w)
unfolding round sum1 sum2
round_is s k w {s1} {c} {s0} {m} p q u v = rw (added_sum (get_or s 7 0) s1 c k w, p, q, u, v)

-- eight rounds from round t on, each from the one before: round t + j has the constant c and the word y that stand there
module _ (words h : List ℕ) (t : ℕ) where
  -- a round's parts are those of round u
  pub record At (u c y : ℕ) : Type 0 where
    pub constant : c ≡ get_or round_constants u 0
    pub word : y ≡ get_or words u 0

  round-next : (j : ℕ) {s r : List ℕ} {c y : ℕ} → At (t + j) c y → s ≡ rounds words h (t + j) → r ≡ round s c y → r ≡ rounds words h (t + suc j)
  unfolding rounds
  round-next j parts p q = rw (add-suc, q, p, parts.constant, parts.word)

  pub rounds_eight : {s s0 s1 s2 s3 s4 s5 s6 s7 : List ℕ} {c0 c1 c2 c3 c4 c5 c6 c7 y0 y1 y2 y3 y4 y5 y6 y7 : ℕ} → s ≡ rounds words h t
      → At (t + 0) c0 y0 → At (t + 1) c1 y1 → At (t + 2) c2 y2 → At (t + 3) c3 y3 → At (t + 4) c4 y4 → At (t + 5) c5 y5 → At (t + 6) c6 y6
      → At (t + 7) c7 y7 → s0 ≡ round s c0 y0 → s1 ≡ round s0 c1 y1 → s2 ≡ round s1 c2 y2 → s3 ≡ round s2 c3 y3 → s4 ≡ round s3 c4 y4
      → s5 ≡ round s4 c5 y5 → s6 ≡ round s5 c6 y6 → s7 ≡ round s6 c7 y7 → s7 ≡ rounds words h (t + 8)
  rounds_eight p a0 a1 a2 a3 a4 a5 a6 a7 p0 p1 p2 p3 p4 p5 p6 p7 =
      let q0 = round-next 0 a0 (p ∙ ap (rounds words h) (sym (add-zero t))) p0 in
      let q1 = round-next 1 a1 q0 p1 in
      let q2 = round-next 2 a2 q1 p2 in
      let q3 = round-next 3 a3 q2 p3 in
      let q4 = round-next 4 a4 q3 p4 in
      let q5 = round-next 5 a5 q4 p5 in
      let q6 = round-next 6 a6 q5 p6 in
      round-next 7 a7 q6 p7

-- words of the schedule in an array of sixteen
module _ (words : List ℕ) where
  -- the words of a window: entry i is word u
  pub window_at : {w : List ℕ} (n : ℕ) → w ≡ window words n → (i u : ℕ) → i < 16 → u ≡ n + i → get_or w i 0 ≡ get_or words u 0
  unfolding window
  window_at n e i u lt f =
      ap (λ (l : List ℕ). get_or l i 0) e ∙ get_d_build (λ i. get_or words (n + i) 0) 16 i lt ∙ ap (λ (j : ℕ). get_or words j 0) (sym f)

  -- a round's parts, from a window
  pub at_window : {w : List ℕ} (h : List ℕ) (t n : ℕ) → w ≡ window words n → (u j i : ℕ) → j ≡ u → i < 16 → u ≡ n + i
      → At words h t u (get_or round_constants j 0) (get_or w i 0)
  at_window h t n e u j i f lt g = record { constant = rw f; word = window_at n e i u lt g }

  -- the next word after a window, from the words before it: entry i of what follows, which is word n + i
  pub word_next : {x a b c d : ℕ} (n i : ℕ) → Extends words → n + i < 48 → a ≡ get_or words (n + i) 0 → b ≡ get_or words (n + (i + 1)) 0
      → c ≡ get_or words (n + (i + 9)) 0 → d ≡ get_or words (n + (i + 14)) 0 → x ≡ (small_sigma1 d + c + small_sigma0 b + a) % 2 ^ 32
      → x ≡ get_or words (n + (i + 16)) 0
  unfolding next_word
  word_next n i ext lt p q r s e =
      let one : n + (i + 1) ≡ n + i + 1 = omega arith in
      let nine : n + (i + 9) ≡ n + i + 9 = omega arith in
      let fourteen : n + (i + 14) ≡ n + i + 14 = omega arith in
      let sixteen : n + (i + 16) ≡ n + i + 16 = omega arith in
      rw (e, p, q, r, s, one, nine, fourteen, sixteen) (sym (ext (n + i) lt))

  -- the window eight words on
  pub window_on : {w : List ℕ} {x0 x1 x2 x3 x4 x5 x6 x7 : ℕ} (n : ℕ) → w ≡ window words n
      → x0 ≡ get_or words (n + 16) 0 → x1 ≡ get_or words (n + 17) 0 → x2 ≡ get_or words (n + 18) 0 → x3 ≡ get_or words (n + 19) 0 → x4 ≡ get_or words (n + 20) 0
      → x5 ≡ get_or words (n + 21) 0 → x6 ≡ get_or words (n + 22) 0 → x7 ≡ get_or words (n + 23) 0
      → ◌≡◌ {A = List ℕ} (get_or w 8 0 ∷ get_or w 9 0 ∷ get_or w 10 0 ∷ get_or w 11 0 ∷ get_or w 12 0 ∷ get_or w 13 0 ∷ get_or w 14 0 ∷ get_or w 15 0
      ∷ x0 ∷ x1 ∷ x2 ∷ x3 ∷ x4 ∷ x5 ∷ x6 ∷ x7 ∷ []) (window words (n + 8))
  unfolding window
  window_on {w} n e p0 p1 p2 p3 p4 p5 p6 p7 =
      sixteen (λ i. get_or words (n + 8 + i) 0)
      (old 8 0 (omega arith) refl) (old 9 1 (omega arith) refl) (old 10 2 (omega arith) refl) (old 11 3 (omega arith) refl)
      (old 12 4 (omega arith) refl) (old 13 5 (omega arith) refl) (old 14 6 (omega arith) refl) (old 15 7 (omega arith) refl)
      (p0 ∙ new 16 8 refl) (p1 ∙ new 17 9 refl) (p2 ∙ new 18 10 refl) (p3 ∙ new 19 11 refl)
      (p4 ∙ new 20 12 refl) (p5 ∙ new 21 13 refl) (p6 ∙ new 22 14 refl) (p7 ∙ new 23 15 refl)
    where
      old : (i j : ℕ) → i < 16 → i ≡ 8 + j → get_or w i 0 ≡ get_or words (n + 8 + j) 0
      old i j lt f = window_at n e i (n + 8 + j) lt (omega arith)

      new : (i j : ℕ) → i ≡ 8 + j → get_or words (n + i) 0 ≡ get_or words (n + 8 + j) 0
      new i j f = ap (λ (u : ℕ). get_or words u 0) (omega arith)

-- a turn, from its rounds and its words
pub turned : (s w : List ℕ) (n : ℕ) {s0 s1 s2 s3 s4 s5 s6 s7 : List ℕ} {x0 x1 x2 x3 x4 x5 x6 x7 : ℕ} → n ≤ 40
    → s0 ≡ round s (get_or round_constants n 0) (get_or w 0 0)
    → x0 ≡ (small_sigma1 (get_or w 14 0) + get_or w 9 0 + small_sigma0 (get_or w 1 0) + get_or w 0 0) % 2 ^ 32
    → s1 ≡ round s0 (get_or round_constants (n + 1) 0) (get_or w 1 0)
    → x1 ≡ (small_sigma1 (get_or w 15 0) + get_or w 10 0 + small_sigma0 (get_or w 2 0) + get_or w 1 0) % 2 ^ 32
    → s2 ≡ round s1 (get_or round_constants (n + 2) 0) (get_or w 2 0)
    → x2 ≡ (small_sigma1 x0 + get_or w 11 0 + small_sigma0 (get_or w 3 0) + get_or w 2 0) % 2 ^ 32
    → s3 ≡ round s2 (get_or round_constants (n + 3) 0) (get_or w 3 0)
    → x3 ≡ (small_sigma1 x1 + get_or w 12 0 + small_sigma0 (get_or w 4 0) + get_or w 3 0) % 2 ^ 32
    → s4 ≡ round s3 (get_or round_constants (n + 4) 0) (get_or w 4 0)
    → x4 ≡ (small_sigma1 x2 + get_or w 13 0 + small_sigma0 (get_or w 5 0) + get_or w 4 0) % 2 ^ 32
    → s5 ≡ round s4 (get_or round_constants (n + 5) 0) (get_or w 5 0)
    → x5 ≡ (small_sigma1 x3 + get_or w 14 0 + small_sigma0 (get_or w 6 0) + get_or w 5 0) % 2 ^ 32
    → s6 ≡ round s5 (get_or round_constants (n + 6) 0) (get_or w 6 0)
    → x6 ≡ (small_sigma1 x4 + get_or w 15 0 + small_sigma0 (get_or w 7 0) + get_or w 6 0) % 2 ^ 32
    → s7 ≡ round s6 (get_or round_constants (n + 7) 0) (get_or w 7 0)
    → x7 ≡ (small_sigma1 x5 + x0 + small_sigma0 (get_or w 8 0) + get_or w 7 0) % 2 ^ 32
    → Turns n s w s7 (get_or w 8 0 ∷ get_or w 9 0 ∷ get_or w 10 0 ∷ get_or w 11 0 ∷ get_or w 12 0 ∷ get_or w 13 0 ∷ get_or w 14 0 ∷ get_or w 15 0
    ∷ x0 ∷ x1 ∷ x2 ∷ x3 ∷ x4 ∷ x5 ∷ x6 ∷ x7 ∷ [])
turned s w n le r0 e0 r1 e1 r2 e2 r3 e3 r4 e4 r5 e5 r6 e6 r7 e7 = record {
  follow = λ words h e p.
      let parts : (j i : ℕ) → i < 16 → j ≡ n + i → At words h n (n + i) (get_or round_constants j 0) (get_or w i 0) = λ j i lt f. at_window words h n n e (n + i) j i f lt refl in
      rounds_eight words h n p (parts n 0 (omega arith) (omega arith)) (parts (n + 1) 1 (omega arith) refl) (parts (n + 2) 2 (omega arith) refl) (parts (n + 3) 3 (omega arith) refl) (parts (n + 4) 4 (omega arith) refl) (parts (n + 5) 5 (omega arith) refl) (parts (n + 6) 6 (omega arith) refl) (parts (n + 7) 7 (omega arith) refl) r0 r1 r2 r3 r4 r5 r6 r7;
  slide = λ words ext e.
      let old : (i : ℕ) → i < 16 → get_or w i 0 ≡ get_or words (n + i) 0 = λ i lt. window_at words n e i (n + i) lt refl in
      let w0 = word_next words n 0 ext (omega arith) (old 0 (omega arith)) (old 1 (omega arith)) (old 9 (omega arith)) (old 14 (omega arith)) e0 in
      let w1 = word_next words n 1 ext (omega arith) (old 1 (omega arith)) (old 2 (omega arith)) (old 10 (omega arith)) (old 15 (omega arith)) e1 in
      let w2 = word_next words n 2 ext (omega arith) (old 2 (omega arith)) (old 3 (omega arith)) (old 11 (omega arith)) w0 e2 in
      let w3 = word_next words n 3 ext (omega arith) (old 3 (omega arith)) (old 4 (omega arith)) (old 12 (omega arith)) w1 e3 in
      let w4 = word_next words n 4 ext (omega arith) (old 4 (omega arith)) (old 5 (omega arith)) (old 13 (omega arith)) w2 e4 in
      let w5 = word_next words n 5 ext (omega arith) (old 5 (omega arith)) (old 6 (omega arith)) (old 14 (omega arith)) w3 e5 in
      let w6 = word_next words n 6 ext (omega arith) (old 6 (omega arith)) (old 7 (omega arith)) (old 15 (omega arith)) w4 e6 in
      let w7 = word_next words n 7 ext (omega arith) (old 7 (omega arith)) (old 8 (omega arith)) w0 w5 e7 in
      window_on words n e w0 w1 w2 w3 w4 w5 w6 w7;
}

-- eight of the last sixteen rounds
pub last_eight : (w words h : List ℕ) (n : ℕ) {s s0 s1 s2 s3 s4 s5 s6 s7 : List ℕ} → n + 8 ≤ 16 → w ≡ window words 48
    → s ≡ rounds words h (48 + n)
    → s0 ≡ round s (get_or round_constants (n + 48) 0) (get_or w n 0)
    → s1 ≡ round s0 (get_or round_constants (n + 49) 0) (get_or w (n + 1) 0)
    → s2 ≡ round s1 (get_or round_constants (n + 50) 0) (get_or w (n + 2) 0)
    → s3 ≡ round s2 (get_or round_constants (n + 51) 0) (get_or w (n + 3) 0)
    → s4 ≡ round s3 (get_or round_constants (n + 52) 0) (get_or w (n + 4) 0)
    → s5 ≡ round s4 (get_or round_constants (n + 53) 0) (get_or w (n + 5) 0)
    → s6 ≡ round s5 (get_or round_constants (n + 54) 0) (get_or w (n + 6) 0)
    → s7 ≡ round s6 (get_or round_constants (n + 55) 0) (get_or w (n + 7) 0)
    → s7 ≡ rounds words h (48 + (n + 8))
last_eight w words h n le e p r0 r1 r2 r3 r4 r5 r6 r7 =
    let parts : (u j i : ℕ) → j ≡ u → i < 16 → u ≡ 48 + i → At words h (48 + n) u (get_or round_constants j 0) (get_or w i 0) = at_window words h (48 + n) 48 e in
    let on : 48 + n + 8 ≡ 48 + (n + 8) = omega arith in
    rounds_eight words h (48 + n) p
    (parts (48 + n + 0) (n + 48) n (omega arith) (omega arith) (omega arith))
    (parts (48 + n + 1) (n + 49) (n + 1) (omega arith) (omega arith) (omega arith))
    (parts (48 + n + 2) (n + 50) (n + 2) (omega arith) (omega arith) (omega arith))
    (parts (48 + n + 3) (n + 51) (n + 3) (omega arith) (omega arith) (omega arith))
    (parts (48 + n + 4) (n + 52) (n + 4) (omega arith) (omega arith) (omega arith))
    (parts (48 + n + 5) (n + 53) (n + 5) (omega arith) (omega arith) (omega arith))
    (parts (48 + n + 6) (n + 54) (n + 6) (omega arith) (omega arith) (omega arith))
    (parts (48 + n + 7) (n + 55) (n + 7) (omega arith) (omega arith) (omega arith))
    r0 r1 r2 r3 r4 r5 r6 r7 ∙ ap (rounds words h) on

-- the words that are there stay as the schedule grows
length-schedule : (m : List ℕ) (n : ℕ) → length (schedule m n) ≡ n + length m
unfolding schedule extend
length-schedule m zero = omega arith
length-schedule m (suc n) = rw (length-append, length-schedule m n) (omega arith)

schedule-stays : (m : List ℕ) (n k i : ℕ) → i < length (schedule m n) → get_or (schedule m (n + k)) i 0 ≡ get_or (schedule m n) i 0
unfolding schedule extend
schedule-stays m n zero i lt = rw (add-zero)
schedule-stays m n (suc k) i lt =
    let fits : i < length (schedule m (n + k)) = omega (arith, length-schedule m n, length-schedule m (n + k)) in
    rw (add-suc) (get_or-append (schedule m (n + k)) _ 0 i fits ∙ schedule-stays m n k i lt)

-- the whole schedule of a block of sixteen words
module _ (m : List ℕ) (size : length m ≡ 16) where
  word-stays : (n i : ℕ) → n ≤ 48 → i < n + 16 → get_or (schedule m 48) i 0 ≡ get_or (schedule m n) i 0
  word-stays n i le lt =
      let count : n + (48 - n) ≡ 48 = omega arith in
      ap (λ (k : ℕ). get_or (schedule m k) i 0) (sym count) ∙ schedule-stays m n (48 - n) i (omega (arith, length-schedule m n, size))

  pub schedule_extends : Extends (schedule m 48)
  unfolding schedule extend next_word
  schedule_extends t lt =
      let long : length (schedule m t) ≡ t + 16 = length-schedule m t ∙ ap (λ (k : ℕ). t + k) size in
      word-stays (suc t) (t + 16) (omega arith) (omega arith) ∙ get_or_at (schedule m t) _ [] 0 (t + 16) long
      ∙ sym (rw (
        word-stays t (t + 14) (omega arith) (omega arith),
        word-stays t (t + 9) (omega arith) (omega arith),
        word-stays t (t + 1) (omega arith) (omega arith),
        word-stays t t (omega arith) (omega arith),
      ))

  -- its first window is the block
  pub window_first : m ≡ window (schedule m 48) 0
  unfolding window schedule
  window_first =
      ext_get_or 0 m _ (size ∙ sym (length-build _ 16)) (λ i lt.
      let fits : i < 16 = omega (arith, size) in
      let place : 0 + i ≡ i = omega arith in
      sym (get_d_build (λ i. get_or (schedule m 48) (0 + i) 0) 16 i fits ∙ ap (λ (j : ℕ). get_or (schedule m 48) j 0) place ∙ word-stays 0 i (omega arith) (omega arith)))

-- one more block
pub absorb-more : (s : List ℕ) (n : ℕ) {h b r : List ℕ} → h ≡ absorb s n → b ≡ block s n → r ≡ compress h b → r ≡ absorb s (n + 1)
unfolding absorb
absorb-more s n p q e = rw (add-one, e, p, q)

-- the next hash value, from its parts
pub compress_is : (h m : List ℕ) {s r : List ℕ} → s ≡ rounds (schedule m 48) h 64 → r ≡ add_words h s → r ≡ compress h m
unfolding compress
compress_is h m p e = rw (e, p)
