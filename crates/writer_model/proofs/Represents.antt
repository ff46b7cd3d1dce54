-- What the writer's buffers hold once the first j layers of the proof of f are done. Assumes nothing.
use Prim.Native.Nat.{ℕ, ◌<◌}
use mathlib.Core.List.{List}
use mathlib.Core.Path.{◌≡◌}
use Rattle.params.specs.declared.Params.{Params}
use Rattle.params.specs.Parameters.{height, root_offset}
use Rattle.message.specs.Bytes.{joined, part}
use Rattle.message.specs.Message.{Digest}
use Rattle.message.specs.Lists.{tabulate}
use Rattle.polynomial.specs.Polynomial.{values}
use Rattle.tree.specs.Tree.{rows, tree_size}
use Rattle.built.specs.Built.{leaves, layer_at, built_root}
use lib.Seq.{sets}
use Rattle.writer_model.specs.Buffers.{Buffers, poly_in, values_in, tree_start}

pub record Represents (hash : List ℕ → Digest) (p : Params) (context f file : List ℕ) (j : ℕ) (w : Buffers) : Type 0 where
  pub poly : poly_in p j w.numbers ≡ (layer_at hash p context f j).poly
  pub state : w.state ≡ (layer_at hash p context f j).state
  pub values_in_lem : (i : ℕ) → i < j → values_in p i w.numbers ≡ values p.n i (layer_at hash p context f i).poly
  pub tree_in_lem : (i : ℕ) → i < j → part (tree_start p i) (tree_size (height p i)) w.bytes ≡ rows hash (height p i) (leaves hash p (layer_at hash p context f i).poly i)
  pub roots_in : w.file ≡ sets file (root_offset 0) (joined (tabulate j (built_root hash p context f)))
