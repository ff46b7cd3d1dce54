-- A whole proof of 88 bytes, for n, b, k, q = 2, 1, 1, 1, made by the independent program (`independent build 2 1 1 1 4`: the first that opens leaf 0).
use Rattle.std.specs.Prelude.{ℕ, List, [], ◌∷◌}
use Rattle.params.specs.declared.Params.{Params}

abbrev pub parameters : Params
parameters = record { n = 2; b = 1; k = 1; q = 1 }

unfoldable pub context : List ℕ
context =
    110 ∷ 228 ∷ 219 ∷ 125 ∷ 101 ∷ 150 ∷ 235 ∷ 114 ∷ 46 ∷ 137 ∷ 203 ∷ 178 ∷ 139 ∷ 174 ∷ 217 ∷ 203 ∷ 155 ∷ 43 ∷ 194 ∷ 34 ∷ 93 ∷ 2 ∷
    157 ∷ 33 ∷ 137 ∷ 232 ∷ 144 ∷ 222 ∷ 63 ∷ 169 ∷ 239 ∷ 13 ∷ []

-- The file, but for its 49th byte: the lowest byte of the first opened value.
unfoldable pub file : ℕ → List ℕ
file first =
    4 ∷ 0 ∷ 2 ∷ 1 ∷ 1 ∷ 1 ∷ 1 ∷ 0 ∷ 94 ∷ 101 ∷ 39 ∷ 89 ∷ 4 ∷ 6 ∷ 84 ∷ 185 ∷ 187 ∷ 204 ∷ 251 ∷ 44 ∷ 131 ∷ 94 ∷
    166 ∷ 148 ∷ 25 ∷ 242 ∷ 236 ∷ 227 ∷ 36 ∷ 31 ∷ 95 ∷ 158 ∷ 170 ∷ 242 ∷ 232 ∷ 100 ∷ 30 ∷ 158 ∷ 121 ∷ 19 ∷ 1 ∷ 0 ∷ 254 ∷ 23 ∷
    63 ∷ 176 ∷ 1 ∷ 0 ∷ first ∷
    192 ∷ 175 ∷ 34 ∷ 47 ∷ 102 ∷ 6 ∷ 128 ∷ 151 ∷ 48 ∷ 123 ∷ 81 ∷ 134 ∷ 134 ∷ 252 ∷ 28 ∷ 36 ∷ 207 ∷ 67 ∷ 215 ∷ 29 ∷ 144 ∷ 38 ∷
    56 ∷ 34 ∷ 145 ∷ 218 ∷ 134 ∷ 41 ∷ 73 ∷ 244 ∷ 81 ∷ 123 ∷ 54 ∷ 249 ∷ 106 ∷ 207 ∷ 78 ∷ 237 ∷ 182 ∷ []
