-- The places of one input more: for an OR behind the sets at the front, for an AND with a single set at the front.
use Prim.Native.Nat.{ℕ, ◌-◌, ◌≤◌}
use mathlib.Core.Path.{◌≡◌}
use mathlib.Core.List.{List}
use native.Mathlib.Nat.{le_refl}
use native.Mathlib.Omega.{arith}
use lib.ListN.{length, drop, take, length-drop}
use lib.Seq.{length-take-le}
use Rattle.theory.specs.MinimalCutSets.{Family}
use Rattle.tree_file.specs.NodeTable.{kind_as}
use Rattle.tree_file.specs.declared.node.GateKind.{GateKind}
use Rattle.tree_file.specs.declared.node.GateKind.TheVariants.{All, Any}
use Rattle.node_sets.specs.Requirements.{joined_count}

module _ (kind : GateKind) (total : ℕ) (f : Family) (before : List ℕ)
    (room : joined_count (kind_as kind) total f.count ≤ length before) where
  -- the places behind the first take the input's own sets
  pub behind_writable : kind ≡ Any → f.count ≤ length (take (length before - total) (drop total before))
  behind_writable k =
      let behind = length-take-le (length before - total) (drop total before) (rw length-drop (le_refl _)) in
      omega (arith, behind, rw k at room)

  -- where there is a single set to join to, the front takes them
  pub single_writable : kind ≡ All → total ≡ 1 → f.count ≤ length before
  single_writable k one = omega (arith, rw (k, one) at room)
