-- The record of a node that is turned over, and its place in an accepted tree file.
use Prim.Native.Nat.{ℕ, ◌+◌, ◌*◌, ◌≤◌, ◌<◌}
use mathlib.Core.Path.{◌≡◌, refl}
use mathlib.Core.List.{List, [], ◌∷◌}
use native.Mathlib.Omega.{arith}
use lib.ListN.{length}
use Rattle.fields.specs.Fields.{byte}
use Rattle.tree_file.specs.Format.{kind, record_at}
use Rattle.dual_files.specs.Tree.{exchanged, dual_record}
use Rattle.dual_files.specs.Writing.{TreeAsked}

-- The record of node i, by the kind of the dual node.
pub record_made : (tree : List ℕ) (i k : ℕ) → k ≡ exchanged (kind tree i)
    → let at = record_at tree i in
    k ∷ byte tree (at + 1) ∷ byte tree (at + 2) ∷ byte tree (at + 3) ∷ byte tree (at + 4) ∷ []
    ≡ dual_record tree i
record_made tree i k e = rw e refl

module _ (tree : List ℕ) (nodes : ℕ) (buffer : List ℕ) (asked : TreeAsked tree nodes buffer) where
  -- every record lies inside the file
  pub record_inside : (i : ℕ) → i < nodes → 9 + 5 * i + 5 ≤ length tree
  record_inside i l = omega (arith, asked.nodes_is, asked.well_formed.header.length_value)
