-- A gate's count with further inputs, of whatever nodes.
use Prim.Native.Nat.{ℕ, zero, suc, ◌≤◌, ◌<◌}
use native.Mathlib.Nat.{le_refl, mul-le-mul}
use native.Mathlib.Omega.{arith}
use mathlib.Core.List.{List}
use Rattle.theory.specs.FaultTree.{GateKind, all, any}
use Rattle.theory.specs.CutSetFamily.{gate_family, unions}
use Rattle.theory.proofs.CutSetCount.{count_positive}
use Rattle.tree_file.specs.Format.{link}
use Rattle.tree_file.specs.NodeTable.{fault_tree}
use Rattle.node_sets.specs.Requirements.{joined_count}
use Rattle.node_sets.proofs.LinkedSets.{linked_sets}

-- an AND of whatever nodes has a set
pub unions_positive : (tree : List ℕ) (a m : ℕ) → 0 < (unions (linked_sets tree a m)).count
unions_positive tree a zero = omega arith
unions_positive tree a (suc m) =
    mul-le-mul (count_positive (fault_tree tree (link tree a))) (unions_positive tree (suc a) m)

-- further inputs never make a gate's count less
pub joined_at_most : (k : GateKind) (tree : List ℕ) (a m total : ℕ)
    → total ≤ joined_count k total (gate_family k (linked_sets tree a m)).count
joined_at_most all tree a m total = omega (arith, mul-le-mul (le_refl total) (unions_positive tree a m))
joined_at_most any tree a m total = omega arith
