-- `merkle::leaf_digest` meets its contract: its message fits.
use mathlib.Core.Path.{◌≡◌, ◌∙◌}
use native.Mathlib.Omega.{arith}
use lib.ListN.{length, take}
use borrow.Author.Rules.{rules}
use Rattle.std.proofs.lemmas.List.{take_min, length-take}
use Rattle.merkle.proofs.MerkleLaws.{tagged_leaf}
use Rattle.merkle.proofs.leaf_digest.Goals as goal

pub returns : goal.returns
returns c =
    let a = c.args in
    let four : length a.values ≡ 4 = search rules in
    let first : take c.min-count.result a.values ≡ take a.count a.values = rw (c.min-count.ensures, ← four) (take_min a.count a.values) in
    rw first at c.tagged_numbers.ensures ∙ tagged_leaf a.layer (take a.count a.values) (omega (arith, length-take a.count a.values))
