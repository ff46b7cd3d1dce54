-- What an opening, a query and all queries leave in the file. Assumes nothing.
use Prim.Native.Nat.{ℕ, zero, suc, ◌+◌, ◌*◌, ◌^◌, ◌-◌, ◌%◌, ◌≤◌, ◌<◌}
use mathlib.Core.Bool.{true, cond}
use mathlib.Core.List.{List, [], ◌∷◌, ◌++◌}
use mathlib.Core.Path.{◌≡◌, refl, sym, ap, ap₂, ◌∙◌}
use native.Mathlib.Nat.{pow-suc, add-zero, zero-add, zero-mul, suc-mul, mul-le-mul_right}
use native.Mathlib.Numerals.{add-one}
use native.Mathlib.Omega.{arith}
use borrow.Author.Tests.{lt-ltb}
use lib.ListN.{length, take, drop, get_or, length-append}
use lib.Pow.{pow_mono}
use lib.Seq.{sets, length-sets}
use Rattle.params.specs.declared.Params.{Params}
use Rattle.params.specs.Parameters.{Valid, values_per_leaf, height, leaf_count, leaf_length, index_bits, opening_length, query_length}
use Rattle.params.proofs.LeafLaws.{leaf_lt}
use Rattle.params.proofs.ParameterLaws.{query_snoc, query-more}
use Rattle.sha256.specs.Sha256.{sha256}
use Rattle.message.specs.Bytes.{le, part, joined, words}
use Rattle.message.specs.Message.{Digest}
use Rattle.message.proofs.Bytes.{le-length, joined_snoc}
use Rattle.buffer.proofs.BufferLaws.{sets-append}
use Rattle.message.proofs.MessageLaws.{words-length, words_append, words-one}
use Rattle.domain.specs.Domain.{half}
use Rattle.transcript.specs.Transcript.{draw}
use Rattle.message.specs.Lists.{tabulate}
use Rattle.message.proofs.Tabulate.{tabulate-length, tabulate_snoc}
use Rattle.buffer.specs.Buffer.{put}
use Rattle.buffer.proofs.BufferLaws.{put-fits}
use Rattle.message.proofs.Placed.{part_length, sets_behind}
use Rattle.polynomial.specs.Polynomial.{layer_size}
use Rattle.tree.specs.Tree.{values_of, tree_size, siblings_in, is_path, path_put}
use Rattle.tree.proofs.Rows.{siblings-length, size_yes}
use Rattle.writer_model.specs.Buffers.{values_in, leaf_in, opening_in, query_in, queries_in, tree_start}
use Rattle.writer_layers.proofs.LayerLaws.{values_here, tree_here, tree_full}

-- A loop that puts the values of a leaf, in 4 bytes each: none, and one more.
pub values_none : (l values : List ℕ) (at count m : ℕ) → l ≡ sets l at (words (values_of 0 count values m))
unfolding values_of tabulate words joined
values_none l values at count m = refl

pub values-more : {d e : List ℕ} (l values : List ℕ) (at count m r : ℕ) → d ≡ sets l at (words (values_of r count values m))
    → e ≡ put d (at + 4 * r) (le 4 (get_or values (m + r * count) 0)) → at + 4 * r + 4 ≤ length d → e ≡ sets l at (words (values_of (r + 1) count values m))
unfolding values_of
values-more {d} {e} l values at count m r p q fits =
    q
    ∙ put-fits d (at + 4 * r) _ (omega (arith, le-length 4 (value r)))
    ∙ ap (λ x. sets x (at + 4 * r) (le 4 (value r))) p
    ∙ sets_behind l (words (tabulate r value)) (le 4 (value r)) at (at + 4 * r) (omega (arith, words-length (tabulate r value), tabulate-length r value))
    ∙ ap (sets l at) (sym next)
  where
    value : ℕ → ℕ
    value i = get_or values (m + i * count) 0

    next : words (tabulate (r + 1) value) ≡ words (tabulate r value) ++ le 4 (value r)
    next =
        ap (λ k. words (tabulate k value)) (add-one r)
        ∙ ap words (tabulate_snoc r value)
        ∙ words_append (tabulate r value) (value r ∷ [])
        ∙ ap (λ z. words (tabulate r value) ++ z) (words-one (value r))

-- The values of a leaf and its path, put one after the other, are an opening.
module _ (p : Params) (j m : ℕ) (v : Valid p) (h : j < p.k) (inside : m < leaf_count p j) (numbers bytes : List ℕ) (long : 2 * 2 ^ p.n ≤ length numbers)
    (room : 64 * 2 ^ p.n ≤ length bytes) (file : List ℕ) (at : ℕ) (fits : at + opening_length p j ≤ length file)
    {size count : ℕ} (e : size ≡ layer_size p.n j) (f : count ≡ leaf_count p j) where
  abbrev values : List ℕ
  values = take (2 * size - size) (drop size numbers)

  abbrev tree : List ℕ
  tree = take (32 * size + 64 * count - 32 - 32 * size) (drop (32 * size) bytes)

  tree_long : length tree ≡ tree_size (height p j)
  tree_long = tree_full p j v h e f bytes room

  known : is_path (height p j) (length tree) m ≡ true
  unfolding is_path
  known = rw (size_yes (height p j) (length tree) (omega arith) tree_long, lt-ltb _ _ inside)

  leaf_here : {per : ℕ} → per ≡ values_per_leaf p → values_of per count values m ≡ leaf_in p j m numbers
  unfolding leaf_in
  leaf_here a = ap₂ (λ x y. values_of x y values m) a f ∙ ap (λ xs. values_of (values_per_leaf p) (leaf_count p j) xs m) (values_here p j v h e f numbers long)

  pub opening_left : {d₁ d₂ : List ℕ} {per up behind : ℕ} → per ≡ values_per_leaf p → up ≡ height p j → behind ≡ leaf_length p
      → d₁ ≡ sets file at (words (values_of per count values m)) → d₂ ≡ path_put up tree m d₁ (at + behind) → d₂ ≡ sets file at (opening_in p j m numbers bytes)
  unfolding path_put opening_in leaf_in values_of
  opening_left {d₁} {d₂} {per} {up} {behind} a b c q r =
      let x : List ℕ = words (leaf_in p j m numbers) in
      let z : List ℕ = siblings_in (height p j) tree m in
      let lx : length x ≡ leaf_length p = words-length (leaf_in p j m numbers) ∙ ap (λ k. 4 * k) (tabulate-length (values_per_leaf p) _) in
      let lz : length z ≡ 32 * height p j = siblings-length (height p j) tree m (omega (arith, tree_long)) inside in
      let first : d₁ ≡ sets file at x = q ∙ ap (λ u. sets file at (words u)) (leaf_here a) in
      let same : length d₁ ≡ length file = ap length first ∙ length-sets file at x in
      r
      ∙ ap₂ (λ k i. path_put k tree m d₁ (at + i)) b c
      ∙ ap (λ t. cond t (put d₁ (at + leaf_length p) z) d₁) known
      ∙ put-fits d₁ (at + leaf_length p) z (omega arith)
      ∙ ap (λ d. sets d (at + leaf_length p) z) first
      ∙ sets_behind file x z at (at + leaf_length p) (omega arith)
      ∙ ap (λ t. sets file at (x ++ siblings_in (height p j) t m)) (tree_here p j v h e f bytes room)

-- A tree stands within the bytes.
tree_inside : (p : Params) (j : ℕ) → Valid p → j < p.k → tree_start p j + tree_size (height p j) ≤ 64 * 2 ^ p.n
unfolding tree_size layer_size
tree_inside p j v h =
    let twice : 2 ^ (p.n - j) ≡ 2 * 2 ^ (p.n - suc j) = ap (λ k. 2 ^ k) (omega arith) ∙ pow-suc 2 (p.n - suc j) ∙ omega arith in
    let small : 2 ^ (p.n - j) ≤ 2 ^ p.n = pow_mono (omega arith) in
    omega arith

-- The openings of a query in the first j layers, and the first i queries.
pub openings : Params → ℕ → List ℕ → List ℕ → ℕ → List ℕ
openings p m numbers bytes j = joined (tabulate j (λ l. opening_in p l (m % leaf_count p l) numbers bytes))

pub opened : Params → Digest → List ℕ → List ℕ → ℕ → List ℕ
opened p s numbers bytes i = joined (tabulate i (λ l. query_in p (draw sha256 s (index_bits p) l) numbers bytes))

-- None yet; one opening more, and one query more.
pub openings_none : (p : Params) (m : ℕ) (numbers bytes file : List ℕ) (at : ℕ) → file ≡ sets file at (openings p m numbers bytes 0)
unfolding openings tabulate joined
openings_none p m numbers bytes file at = refl

pub opened_none : (p : Params) (s : Digest) (numbers bytes file : List ℕ) (at : ℕ) → file ≡ sets file at (opened p s numbers bytes 0)
unfolding opened tabulate joined
opened_none p s numbers bytes file at = refl

module _ (p : Params) (numbers bytes : List ℕ) where
  openings_snoc : (m j : ℕ) → openings p m numbers bytes (suc j) ≡ openings p m numbers bytes j ++ opening_in p j (m % leaf_count p j) numbers bytes
  unfolding openings
  openings_snoc m j = ap joined (tabulate_snoc j _) ∙ joined_snoc _ _

  opened_snoc : (s : Digest) (i : ℕ) → opened p s numbers bytes (suc i) ≡ opened p s numbers bytes i ++ query_in p (draw sha256 s (index_bits p) i) numbers bytes
  unfolding opened
  opened_snoc s i = ap joined (tabulate_snoc i _) ∙ joined_snoc _ _

module _ (p : Params) (v : Valid p) (numbers bytes : List ℕ) (room : 64 * 2 ^ p.n ≤ length bytes) where
  opening_size : (j m : ℕ) → j < p.k → m < leaf_count p j → length (opening_in p j m numbers bytes) ≡ opening_length p j
  unfolding opening_in leaf_in values_of
  opening_size j m h inside =
      let t : List ℕ = part (tree_start p j) (tree_size (height p j)) bytes in
      let z : List ℕ = siblings_in (height p j) t m in
      let long : length t ≡ tree_size (height p j) = part_length (tree_start p j) (tree_size (height p j)) bytes (omega (arith, tree_inside p j v h)) in
      let lz : length z ≡ 32 * height p j = siblings-length (height p j) t m (omega arith) inside in
      length-append (words (leaf_in p j m numbers)) z
      ∙ omega (arith, words-length (leaf_in p j m numbers), tabulate-length (values_per_leaf p) (λ r. get_or (values_in p j numbers) (m + r * leaf_count p j) 0))

  module _ (m : ℕ) where
    openings_size : (j : ℕ) → j ≤ p.k → length (openings p m numbers bytes j) ≡ query_length p 0 j
    unfolding openings tabulate joined query_length
    openings_size zero h = refl
    openings_size (suc j) h =
        ap length (openings_snoc p numbers bytes m j)
        ∙ length-append (openings p m numbers bytes j) _
        ∙ ap₂ (λ a b. a + b) (openings_size j (omega arith)) (opening_size j (m % leaf_count p j) h (leaf_lt p j m))
        ∙ sym (ap (query_length p 0) (sym (add-one j)) ∙ query_snoc p 0 j ∙ ap (λ k. query_length p 0 j + opening_length p k) (zero-add j))

    pub openings_more : {d e : List ℕ} (file : List ℕ) (at to j l : ℕ) → j < p.k → to ≡ at + query_length p 0 j → l ≡ m % half p.n j
        → d ≡ sets file at (openings p m numbers bytes j) → e ≡ sets d to (opening_in p j l numbers bytes) → e ≡ sets file at (openings p m numbers bytes (j + 1))
    unfolding half
    openings_more file at to j l h t q a b =
        b
        ∙ ap₂ (λ x y. sets x y (opening_in p j l numbers bytes)) a (t ∙ ap (λ k. at + k) (sym (openings_size j (omega arith))))
        ∙ sets-append file (openings p m numbers bytes j) _ at
        ∙ ap (sets file at) (ap (λ k. openings p m numbers bytes j ++ opening_in p j k numbers bytes) q ∙ sym (openings_snoc p numbers bytes m j) ∙ ap (openings p m numbers bytes) (sym (add-one j)))

    pub openings_done : {d : List ℕ} (file : List ℕ) (at j : ℕ) → j ≡ p.k → d ≡ sets file at (openings p m numbers bytes j) → d ≡ sets file at (query_in p m numbers bytes)
    unfolding openings query_in
    openings_done file at j h e = e ∙ ap (λ k. sets file at (openings p m numbers bytes k)) h

    query-size : length (query_in p m numbers bytes) ≡ query_length p 0 p.k
    unfolding openings query_in
    query-size = openings_size p.k (omega arith)

  module _ (s : Digest) where
    opened-size : (i : ℕ) → length (opened p s numbers bytes i) ≡ i * query_length p 0 p.k
    unfolding opened tabulate joined
    opened-size zero = sym (zero-mul (query_length p 0 p.k))
    opened-size (suc i) =
        ap length (opened_snoc p numbers bytes s i)
        ∙ length-append (opened p s numbers bytes i) _
        ∙ ap₂ (λ a b. a + b) (opened-size i) (query-size (draw sha256 s (index_bits p) i))
        ∙ sym (suc-mul i (query_length p 0 p.k))

    pub opened-more : {d e : List ℕ} (file : List ℕ) (at to i m : ℕ) → to ≡ at + i * query_length p 0 p.k → m ≡ draw sha256 s (index_bits p) i
        → d ≡ sets file at (opened p s numbers bytes i) → e ≡ sets d to (query_in p m numbers bytes) → e ≡ sets file at (opened p s numbers bytes (i + 1))
    opened-more file at to i m t q a b =
        b
        ∙ ap₂ (λ x y. sets x y (query_in p m numbers bytes)) a (t ∙ ap (λ k. at + k) (sym (opened-size i)))
        ∙ sets-append file (opened p s numbers bytes i) _ at
        ∙ ap (sets file at) (ap (λ k. opened p s numbers bytes i ++ query_in p k numbers bytes) q ∙ sym (opened_snoc p numbers bytes s i) ∙ ap (opened p s numbers bytes) (sym (add-one i)))

    pub opened-done : {d : List ℕ} (file : List ℕ) (at i : ℕ) → i ≡ p.q → d ≡ sets file at (opened p s numbers bytes i) → d ≡ sets file at (queries_in p sha256 s numbers bytes)
    unfolding opened queries_in
    opened-done file at i h e = e ∙ ap (λ k. sets file at (opened p s numbers bytes k)) h

-- There is room for the next opening.
pub opening_inside : (p : Params) (j d : ℕ) → query_length p 0 j + opening_length p j ≤ query_length p 0 (j + 1 + d)
opening_inside p j zero = omega (arith, query_snoc p 0 j, ap (opening_length p) (zero-add j), ap (query_length p 0) (add-zero (j + 1)))
opening_inside p j (suc d) = omega (arith, opening_inside p j d, query_snoc p 0 (j + 1 + d), ap (query_length p 0) (add_suc_one (j + 1) d))
  where
    add_suc_one : (a d : ℕ) → a + suc d ≡ a + d + 1
    add_suc_one a d = omega arith

pub leaf-below : {l : ℕ} (p : Params) (j m : ℕ) → l ≡ m % half p.n j → l < leaf_count p j
unfolding half
leaf-below p j m e = rw e (leaf_lt p j m)

pub opening_room : {to : ℕ} (p : Params) (at j size : ℕ) → j < p.k → to ≡ at + query_length p 0 j → at + query_length p 0 p.k ≤ size → to + opening_length p j ≤ size
opening_room p at j size h e fits =
    let all : j + 1 + (p.k - (j + 1)) ≡ p.k = omega arith in
    omega (arith, opening_inside p j (p.k - (j + 1)), ap (query_length p 0) all)

-- The place after an opening, and after a query.
pub opening_next : {to l : ℕ} (p : Params) (at j : ℕ) → to ≡ at + query_length p 0 j → l ≡ opening_length p j → to + l ≡ at + query_length p 0 (j + 1)
opening_next p at j e f = omega (arith, query-more p j refl f)

pub query-next : {to l : ℕ} (at i size : ℕ) → to ≡ at + i * size → l ≡ size → to + l ≡ at + (i + 1) * size
query-next at i size e f = omega (arith, ap (λ k. k * size) (add-one i), suc-mul i size)
