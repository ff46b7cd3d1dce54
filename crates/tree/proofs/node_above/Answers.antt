-- `tree::node_above` meets its contract.
use Prim.Native.Nat.{◌+◌, ◌-◌}
use mathlib.Core.Path.{◌∙◌, ap₂}
use native.Mathlib.Omega.{arith}
use Rattle.message.specs.Message.{tagged_hash}
use Rattle.tree.proofs.TreeLaws.{node_parts}
use Rattle.tree.proofs.node_above.Goals as goal

pub returns : goal.returns
returns c =
    let at = c.args.at in
    node_parts c.args.space.now at (at + 64 - at) c.requires (omega arith)
    (c.tagged_hash.ensures ∙ ap₂ (λ x y. tagged_hash 1 x y) c.split_at.ensures.front c.split_at.ensures.back)
