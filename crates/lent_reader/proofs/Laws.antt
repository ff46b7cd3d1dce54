-- What is known of a callee's result, put into the next callee's; and a piece that is held. Assumes nothing.
use Prim.Native.Nat.{ℕ, zero, suc, ◌+◌, ◌≤◌, ◌<◌}
use native.Mathlib.Omega.{arith}
use mathlib.Core.Bool.{Bool, true, false, cond}
use mathlib.Core.List.{List, [], ◌∷◌, ◌++◌}
use mathlib.Core.Path.{◌≡◌, refl, sym, ap, ap₂, ◌∙◌}
use lib.ListN.{get_or, set, length, take, drop, length-drop}
use lib.Seq.{take_all}
use lib.Dec.{eqb}
use borrow.Author.Tests.{ltb-true, eqb-true, ne_eqb}
use Rattle.sha256.specs.Sha256.{sha256}
use Rattle.answer.specs.declared.Answer.{Answer}
use Rattle.answer.specs.Table.{open_so_far}
use Rattle.params.specs.Parameters.{header_size, header, from_header}
use Rattle.reader_model.specs.declared.Stage.{Stage}
use Rattle.reader_model.specs.declared.Stage.TheVariants.{ParameterCount, Parameters, RootCount, Root, CoefficientCount, Coefficient, QueryCount, Value, Sibling, Tail}
use Rattle.reader_model.specs.declared.Core.{Core}
use Rattle.reader_model.specs.declared.Tables.{Tables}
use Rattle.reader_model.specs.declared.Reader.{Reader}
use Rattle.reader_model.specs.declared.Reply.{Reply}
use Rattle.reader_model.specs.State.{item_length, whole}
use Rattle.reader_model.specs.Model.{ends_inside, filled_item, is_stopped, open_answer, told, answer_of, replied, pieced}
use Rattle.reader_model.proofs.Pieces.{filled_inside, filled_not, run, fed_inside}
use Rattle.lent_reader.specs.declared.parts.Front.{Front}
use Rattle.lent_reader.specs.Private.{front_of}
use Rattle.lent_reader.specs.Held.{Small, Outcome, number_of, stage_of, small, small_of, core_of, held, held_of, reader_of, outcome, outcome_of}

-- The outcome of a reply's parts is the reply's.
pub outcome_by : {s : Small} {a : Answer} {c : Core} {y : Reply} (roots challenges coefficients : List ℕ) → s ≡ small_of c → replied a c roots challenges coefficients ≡ y
    → ◌≡◌ {A = Outcome} (record { answer = a; held = record { small = s; tables = record { roots = roots; challenges = challenges; coefficients = coefficients } } }) (outcome_of y)
unfolding outcome_of held_of
outcome_by {s} {a} roots challenges coefficients e f =
    ap (λ (k : Small). record { answer = a; held = record { small = k; tables = record { roots = roots; challenges = challenges; coefficients = coefficients } } }) e
    ∙ ap outcome_of f

pub pieced_from : {y : Reply} {r x : Reader} (bytes : List ℕ) → y ≡ pieced sha256 r bytes → r ≡ x → y ≡ pieced sha256 x bytes
pieced_from bytes e f = e ∙ ap (λ r. pieced sha256 r bytes) f

pub whole_from : {k l : Core} (roots challenges coefficients : List ℕ) → k ≡ l → whole k roots challenges coefficients ≡ whole l roots challenges coefficients
whole_from roots challenges coefficients e = ap (λ c. whole c roots challenges coefficients) e

-- A list is the list of its elements.
abbrev pub elements : ℕ → (ℕ → ℕ) → List ℕ
elements zero f = []
elements (suc n) f = f zero ∷ elements n (λ i. f (suc i))

spelt : (xs : List ℕ) → xs ≡ elements (length xs) (λ i. get_or xs i 0)
spelt [] = refl
spelt (x ∷ xs) = ap (λ l. x ∷ l) (spelt xs)

pub spelt_by : (n : ℕ) (xs : List ℕ) → length xs ≡ n → xs ≡ elements n (λ i. get_or xs i 0)
spelt_by n xs e = spelt xs ∙ ap (λ k. elements k (λ i. get_or xs i 0)) e

split_at : (k : ℕ) (xs : List ℕ) → k ≤ length xs → xs ≡ elements k (λ i. get_or xs i 0) ++ drop k xs
split_at zero xs h = refl
split_at (suc k) [] h = absurd (omega arith)
split_at (suc k) (x ∷ xs) h = ap (λ l. x ∷ l) (split_at k xs (omega arith))

-- The numbers of one byte: six, then the parameter bytes.
pub parameters_at : (ms : List ℕ) → length ms ≡ 6 + header_size → from_header (take header_size (drop 6 ms)) ≡ from_header (drop 6 ms)
parameters_at ms e = ap (λ l. from_header l) (take_all header_size (drop 6 ms) (omega (arith, length-drop 6 ms)))

header_back : (bytes : List ℕ) → length bytes ≡ header_size → header (from_header bytes) ≡ bytes
header_back bytes e = sym (spelt_by header_size bytes e)

u8s_back : (ms : List ℕ) {m : ℕ} → length ms ≡ 6 + header_size → m ≡ get_or ms 0 0
    → ms ≡ m ∷ get_or ms 1 0 ∷ get_or ms 2 0 ∷ get_or ms 3 0 ∷ get_or ms 4 0 ∷ get_or ms 5 0 ∷ header (from_header (drop 6 ms))
u8s_back ms e back =
    split_at 6 ms (omega arith)
    ∙ ap₂ (λ (m : ℕ) (l : List ℕ). m ∷ get_or ms 1 0 ∷ get_or ms 2 0 ∷ get_or ms 3 0 ∷ get_or ms 4 0 ∷ get_or ms 5 0 ∷ l) (sym back)
    (sym (header_back (drop 6 ms) (length-drop 6 ms ∙ omega arith)))

-- Those of four bytes: six, then the leaf's values.
pub last_four : (ws : List ℕ) → length ws ≡ 10 → get_or ws 6 0 ∷ get_or ws 7 0 ∷ get_or ws 8 0 ∷ get_or ws 9 0 ∷ [] ≡ drop 6 ws
last_four ws e = sym (ap (drop 6) (spelt_by 10 ws e))

-- A stage whose item has bytes is not the stopped one, and has one number only.
pick : (m k : ℕ) (s rest : Stage) (test : Bool) → eqb m k ≡ test → number_of s ≡ k → (0 < item_length rest → number_of rest ≡ m) → 0 < item_length (cond test s rest) → number_of (cond test s rest) ≡ m
pick m k s rest true e named other h = named ∙ sym (eqb-true m k e)
pick m k s rest false e named other h = other h

named_back : (m : ℕ) → 0 < item_length (stage_of m) → number_of (stage_of m) ≡ m
unfolding stage_of
named_back m =
    pick m 1 ParameterCount _ (eqb m 1) refl refl
    (pick m 2 Parameters _ (eqb m 2) refl refl
    (pick m 3 RootCount _ (eqb m 3) refl refl
    (pick m 4 Root _ (eqb m 4) refl refl
    (pick m 5 CoefficientCount _ (eqb m 5) refl refl
    (pick m 6 Coefficient _ (eqb m 6) refl refl
    (pick m 7 QueryCount _ (eqb m 7) refl refl
    (pick m 8 Value _ (eqb m 8) refl refl
    (pick m 9 Sibling _ (eqb m 9) refl refl
    (pick m 10 Tail _ (eqb m 10) refl refl
    (λ h. absurd (omega arith)))))))))))

not_stopped : (stage : Stage) → 0 < item_length stage → is_stopped stage ≡ false
not_stopped stage h = ne_eqb (item_length stage) 0 (λ e. absurd (omega arith))

-- A piece that ends inside the item, by the reader's model.
abbrev replying : Answer → Reader → Reply
replying a r = record { answer = a; state = r }

pieced_inside : (r : Reader) (bytes : List ℕ) → r.core.fill + length bytes < item_length r.core.stage
    → pieced sha256 r bytes ≡ replying (open_answer open_so_far r.core.cursor.start (r.core.fill + length bytes)) (run r bytes)
unfolding pieced answer_of
pieced_inside r bytes inside =
    let going : is_stopped r.core.stage ≡ false = not_stopped r.core.stage (omega arith) in
    ap (λ (x : Reader). replying (answer_of x.core open_so_far) x) (sym (fed_inside sha256 r bytes inside))
    ∙ ap (λ (t : Bool). replying (cond t (told r.core.answer) (open_answer open_so_far r.core.cursor.start (r.core.fill + length bytes))) (run r bytes)) going

-- What a caller holds is put together from equal parts.
assembled : {a a' : Answer} {m m' w w' k k' i i' : List ℕ} (node transcript : List ℕ) (t : Tables) → a ≡ a' → m ≡ m' → w ≡ w' → k ≡ k' → i ≡ i'
    → ◌≡◌ {A = Outcome} (record { answer = a; held = record { small = small m w k i node transcript; tables = t } }) (record { answer = a'; held = record { small = small m' w' k' i' node transcript; tables = t } })
assembled node transcript t ea em ew ek ei = rw (ea, em, ew, ek, ei)

module _ (u8s u32s sizes item node transcript roots challenges coefficients bytes : List ℕ) {front : Front} {inside : Bool} {after : List ℕ} (front-is : front ≡ front_of u8s u32s sizes)
    (inside_is : inside ≡ ends_inside front.stage front.fill bytes) (after_is : after ≡ filled_item front.stage front.fill item bytes) where
  -- A piece that does not end inside the item leaves it alone, and is read.
  pub read_whole : {x : Outcome} → inside ≡ false
      → x ≡ outcome_of (pieced sha256 (reader_of (held u8s u32s sizes after node transcript roots challenges coefficients)) bytes)
      → x ≡ outcome_of (pieced sha256 (reader_of (held u8s u32s sizes item node transcript roots challenges coefficients)) bytes)
  read_whole outside e =
      e ∙ ap (λ i. outcome_of (pieced sha256 (reader_of (held u8s u32s sizes i node transcript roots challenges coefficients)) bytes))
      (after_is ∙ sym (filled_not front.stage front.fill item bytes (sym inside_is ∙ outside)))

  -- A piece that does is held: of all that the caller holds, the item and its fill alone change.
  abbrev before : Reader
  before = reader_of (held u8s u32s sizes item node transcript roots challenges coefficients)

  pub held-piece : {a : Answer} → length u8s ≡ 6 + header_size → length u32s ≡ 10 → length sizes ≡ 2 → inside ≡ true
      → a ≡ open_answer open_so_far front.start (front.fill + length bytes)
      → outcome a u8s u32s (set sizes 0 (front.fill + length bytes)) after node transcript roots challenges coefficients ≡ outcome_of (pieced sha256 before bytes)
  unfolding outcome_of held_of small_of core_of
  held-piece ten all two ends told =
      let e : ends_inside (stage_of (get_or u8s 0 0)) (get_or sizes 0 0) bytes ≡ true =
      ap (λ (f : Front). ends_inside f.stage f.fill bytes) (sym front-is) ∙ (sym inside_is ∙ ends) in
      let within : get_or sizes 0 0 + length bytes < item_length (stage_of (get_or u8s 0 0)) = ltb-true _ _ e in
      assembled node transcript before.tables
      (told ∙ ap (λ (f : Front). open_answer open_so_far f.start (f.fill + length bytes)) front-is)
      (u8s_back u8s ten (named_back (get_or u8s 0 0) (omega arith)))
      (split_at 6 u32s (omega arith))
      (ap (λ l. set l 0 (front.fill + length bytes)) (spelt_by 2 sizes two)
      ∙ ap (λ (f : Front). (f.fill + length bytes) ∷ get_or sizes 1 0 ∷ []) front-is)
      (after_is
      ∙ (ap (λ (f : Front). filled_item f.stage f.fill item bytes) front-is
      ∙ sym (filled_inside (stage_of (get_or u8s 0 0)) (get_or sizes 0 0) item bytes e)))
      ∙ ap outcome_of (sym (pieced_inside before bytes within))
