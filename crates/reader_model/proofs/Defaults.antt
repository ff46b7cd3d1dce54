-- What the derived `default` of the state's parts gives: zeros. Assumes nothing.
use Prim.Native.Nat.{ℕ}
use native.Mathlib.Omega.{arith}
use mathlib.Core.Path.{◌≡◌, sym, ◌∙◌}
use mathlib.Core.List.{List}
use lib.ListN.{replicate}
use lib.Seq.{ext_get_or}
use Rattle.std.specs.Array.{AllOfLen}
use Rattle.std.proofs.lemmas.List.{length-replicate, get_or-replicate}
use Rattle.reader_model.specs.declared.Cursor.{Cursor}
use Rattle.reader_model.specs.declared.Walk.{Walk}
use Rattle.reader_model.specs.declared.Tables.{Tables}
use Rattle.reader_model.specs.State.{no_cursor, no_walk, no_tables}

zeros : {xs : List ℕ} {n : ℕ} → AllOfLen (λ (x : ℕ). x ≡ 0) xs n → xs ≡ replicate n 0
zeros {xs} {n} h =
    ext_get_or 0 xs (replicate n 0) (h.long ∙ sym (length-replicate n 0))
    (λ i l. h.at i 0 (omega (arith, h.long)) ∙ sym (get_or-replicate n i 0 0 (omega (arith, h.long))))

pub cursor_of : {start coefficient query layer value height : ℕ}
    → (start ≡ 0) × ((coefficient ≡ 0) × ((query ≡ 0) × ((layer ≡ 0) × ((value ≡ 0) × (height ≡ 0)))))
    → ◌≡◌ {A = Cursor} (record { start = start; coefficient = coefficient; query = query; layer = layer; value = value; height = height }) no_cursor
cursor_of h = rw (h.0, h.1.0, h.1.1.0, h.1.1.1.0, h.1.1.1.1.0, h.1.1.1.1.1)

pub walk_of : {index position scale folded : ℕ} {values node : List ℕ}
    → (index ≡ 0) × ((position ≡ 0) × (AllOfLen (λ (x : ℕ). x ≡ 0) values 4 × ((scale ≡ 0) × ((folded ≡ 0) × AllOfLen (λ (x : ℕ). x ≡ 0) node 32))))
    → ◌≡◌ {A = Walk} (record { index = index; position = position; values = values; scale = scale; folded = folded; node = node }) no_walk
walk_of h = rw (h.0, h.1.0, zeros h.1.1.0, h.1.1.1.0, h.1.1.1.1.0, zeros h.1.1.1.1.1)

pub tables_of : {roots challenges coefficients : List ℕ}
    → AllOfLen (λ (x : ℕ). x ≡ 0) roots 512 × (AllOfLen (λ (x : ℕ). x ≡ 0) challenges 16 × AllOfLen (λ (x : ℕ). x ≡ 0) coefficients 64)
    → ◌≡◌ {A = Tables} (record { roots = roots; challenges = challenges; coefficients = coefficients }) no_tables
tables_of h = rw (zeros h.0, zeros h.1.0, zeros h.1.1)
