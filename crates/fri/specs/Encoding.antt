-- A proof and its bytes: the published layout (document 01, "The proof's sections").
use Rattle.std.specs.Prelude.{ℕ, ◌<◌, List, [], ◌++◌, map, ◌≡◌, length, get_or}
use Rattle.field.specs.Modular.{p as modulus}
use Rattle.message.specs.Bytes.{le, joined, words}
use Rattle.message.specs.Message.{Digest}
use Rattle.params.specs.declared.Params.{Params}
use Rattle.params.specs.Parameters.{header_size, header, final_count, values_per_leaf, height}

-- One query's opening in one layer: the values of leaf m, at the points m + r · the number of leaves, and the siblings from the leaf up.
pub record Opening : Type 0 where
  pub values : List ℕ
  pub siblings : List Digest

-- A proof: the root of each layer, the final coefficients, lowest power first, and for each query an opening in each layer.
pub record Proof : Type 0 where
  pub roots : List Digest
  pub final : List ℕ
  pub queries : List (List Opening)

unfoldable pub opening_bytes : Opening → List ℕ
opening_bytes o = words o.values ++ joined o.siblings

unfoldable pub query_bytes : List Opening → List ℕ
query_bytes os = joined (map opening_bytes os)

-- The four sections, each after its count as 2 bytes, low byte first.
unfoldable pub encode : Params → Proof → List ℕ
encode p proof =
    le 2 header_size
    ++ (header p
    ++ (le 2 p.k
    ++ (joined proof.roots
    ++ (le 2 (final_count p)
    ++ (words proof.final
    ++ (le 2 p.q
    ++ joined (map query_bytes proof.queries)))))))

-- The root of layer j.
abbrev pub root_at : Proof → ℕ → Digest
root_at proof j = get_or proof.roots j []

-- The opening of query i in layer j; where there is none, an empty one.
abbrev pub no_opening : Opening
no_opening = record { values = []; siblings = [] }

abbrev pub opening_at : Proof → ℕ → ℕ → Opening
opening_at proof i j = get_or (get_or proof.queries i []) j no_opening

-- The bytes of a digest: 32, each below 256.
pub record IsDigest (d : Digest) : Type 0 where
  pub size : length d ≡ 32
  pub below : (i : ℕ) → i < 32 → get_or d i 0 < 256

-- An opening in layer j: numbers below the modulus, and a sibling for each height.
pub record IsOpening (p : Params) (j : ℕ) (o : Opening) : Type 0 where
  pub value_count : length o.values ≡ values_per_leaf p
  pub value_below : (r : ℕ) → r < values_per_leaf p → get_or o.values r 0 < modulus
  pub sibling_count : length o.siblings ≡ height p j
  pub sibling : (h : ℕ) → h < height p j → IsDigest (get_or o.siblings h [])

-- The proof has the sizes that the parameters give.
pub record HasLayout (p : Params) (proof : Proof) : Type 0 where
  pub root_count : length proof.roots ≡ p.k
  pub root_digest : (j : ℕ) → j < p.k → IsDigest (root_at proof j)
  pub final_count_lem : length proof.final ≡ final_count p
  pub final_below : (i : ℕ) → i < final_count p → get_or proof.final i 0 < modulus
  pub query_count : length proof.queries ≡ p.q
  pub layer_count : (i : ℕ) → i < p.q → length (get_or proof.queries i []) ≡ p.k
  pub opening_form : (i j : ℕ) → i < p.q → j < p.k → IsOpening p j (opening_at proof i j)
