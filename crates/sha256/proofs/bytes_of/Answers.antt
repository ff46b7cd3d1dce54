-- `sha256::bytes_of` meets its contract: each call of the closure gives a byte of a word.
use Prim.Native.Nat.{◌/◌, ◌%◌}
use native.Mathlib.Omega.{arith}
use borrow.Author.Rules.{rules}
use lib.ListN.{get_or}
use Rattle.sha256.specs.Sha256.{bytes_of}
use Rattle.sha256.proofs.Build.{made}
use Rattle.sha256.proofs.Padding.{byte_is}
use Rattle.sha256.proofs.bytes_of.Goals as goal

pub returns : goal.returns
unfolding bytes_of
returns c =
    made _ _ _ (λ i y q k. let byte = byte_is (get_or c.args.h (i / 4) 0) (i % 4) (omega arith) in search rules) 32 _ c.from_fn.ensures.items
