-- NIST's Monte test for SHA-256: each digest is that of the three before it.
use Rattle.std.specs.Prelude.{List, ◌++◌, ℕ, zero, suc}
use Rattle.sha256.specs.Sha256.{sha256}

-- MD i: the first three are the seed, and a later one is the digest of the message M i, the three before it end to end
unfoldable pub digest_at : List ℕ → ℕ → List ℕ
digest_at seed zero = seed
digest_at seed (suc zero) = seed
digest_at seed (suc (suc zero)) = seed
digest_at seed (suc (suc (suc i))) = sha256 (digest_at seed i ++ (digest_at seed (suc i) ++ digest_at seed (suc (suc i))))

-- the last digest of a thousand, which is the next seed
unfoldable pub checkpoint : List ℕ → List ℕ
checkpoint seed = digest_at seed 1002
