-- `tree::build` meets its contract: the rows above the digests, and the root from the end; a space of another size stays.
use Prim.Native.Nat.{◌-◌}
use mathlib.Core.Path.{◌≡◌, sym, ap, ◌∙◌}
use native.Mathlib.Omega.{arith}
use lib.ListN.{length, length-drop}
use Rattle.std.proofs.lemmas.List.{take_rest}
use Rattle.sha256.specs.Sha256.{sha256}
use Rattle.tree.specs.Tree.{tree_size, root_over}
use Rattle.tree.proofs.TreeLaws.{size_even}
use Rattle.tree.proofs.Rows.{rows_root, size_yes, root_yes}
use Rattle.tree.proofs.build.Goals as goal

pub overflow_sub-size : goal.overflow_sub-size
overflow_sub-size c = omega (arith, size_even c.in-Some.height.levels)

pub copy_from_slice-requires : goal.copy_from_slice-requires
copy_from_slice-requires c =
    let d = c.in-Some.height.levels in
    let space = c.hash_rows.new.space in
    omega (arith, size_even d, ap length (take_rest space (c.size-then-space-size.result - 32)), length-drop (c.size-then-space-size.result - 32) space)

pub returns-then-space-size-clause-value : goal.returns-then-space-size-clause-value
returns-then-space-size-clause-value c =
    let d = c.in-Some.height.levels in
    let space = c.args.space.now in
    let made = c.hash_rows.new.space in
    let whole : length space ≡ tree_size d = omega (arith, size_even d) in
    c.copy_from_slice.ensures.after
    ∙ take_rest made (c.size-then-space-size.result - 32)
    ∙ rows_root space d _ whole (omega (arith, c.hash_rows.auto.space)) (omega (arith, size_even d)) c.hash_rows.ensures
    ∙ sym (root_yes d space (size_yes d (length space) c.in-Some.height.bounded whole))
    ∙ ap (λ h. root_over sha256 h space) c.in-Some.ensures
