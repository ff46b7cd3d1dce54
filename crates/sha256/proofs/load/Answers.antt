-- `sha256::load` meets its contract: the words of a block's bytes are those of the padded message.
use mathlib.Core.Path.{◌∙◌, sym}
use Prim.Native.Nat.{◌/◌, ◌<◌}
use native.Mathlib.Omega.{arith}
use borrow.Author.Tests.{ltb-true}
use lib.ListN.{length}
use Rattle.sha256.proofs.Padding.{block_of, whole_block}
use Rattle.sha256.proofs.load.Goals as goal

pub returns-in-Some : goal.returns-in-Some
returns-in-Some c =
    let found = c.in-Some.ensures.lookup in
    let fits : c.args.i < length c.args.m.now / 64 = omega (arith, ltb-true _ _ (sym found.0), c.as_chunks.ensures.front_len) in
    c.words_of.ensures ∙ block_of _ _ c.args.i (λ j lt. whole_block c.args.m.now c.args.i j _ c.as_chunks.ensures.front (omega arith) fits found.1 lt)

pub returns-in-None : goal.returns-in-None
returns-in-None c = c.words_of-in-None.ensures ∙ block_of _ _ c.args.i c.last_block.ensures
