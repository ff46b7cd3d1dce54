-- `lent_reader::parts::core_of` meets its contract.
use Prim.Native.Nat.{◌+◌}
use mathlib.Core.Path.{◌≡◌, ◌∙◌}
use lib.ListN.{length}
use Rattle.params.specs.Parameters.{header_size}
use Rattle.lent_reader.specs.Held.{core_of}
use Rattle.lent_reader.proofs.Laws.{parameters_at, last_four}
use borrow.Author.Rules.{rules}
use Rattle.lent_reader.proofs.parts.core_of.Goals as goal

pub returns : goal.returns
unfolding core_of
returns c =
    let args = c.args in
    let long : length args.u8s ≡ 6 + header_size = search rules in
    let all : length args.u32s ≡ 10 = search rules in
    rw (c.stage_of.ensures, c.from_header.ensures ∙ parameters_at args.u8s long, ← last_four args.u32s all)
