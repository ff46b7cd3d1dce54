-- `sha256::last_block` meets its contract.
use mathlib.Core.Path.{sym, ◌∙◌}
use Prim.Native.Nat.{◌+◌, ◌*◌}
use native.Mathlib.Omega.{arith}
use borrow.Author.Rules.{rules}
use Rattle.sha256.proofs.Padding.{last_bytes, pad_front}
use Rattle.sha256.proofs.last_block.Goals as goal

pub returns-then-i-m : goal.returns-then-i-m
returns-then-i-m c = λ j lt.
    last_bytes c.args.m.now _ c.args.i j c.if-i-m.true c.end_of-block.ensures (search rules) (c.copy_from_slice.ensures.after ∙ c.to_be_bytes.ensures) lt

pub returns-else-i-m : goal.returns-else-i-m
returns-else-i-m c = λ j lt. c.end_of-block.ensures j lt ∙ sym (pad_front c.args.m.now (c.args.i * 64 + j) (omega arith))
