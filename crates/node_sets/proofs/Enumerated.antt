-- A node's sets are its minimal cut sets, each once, and its count is how many there are, however they are enumerated.
use Prim.Native.Nat.{ℕ, ◌<◌}
use mathlib.Core.Path.{◌≡◌}
use mathlib.Core.List.{List}
use Rattle.theory.specs.MinimalCutSets.{Family, Enumerates}
use Rattle.theory.proofs.CutSetsEnumerated.{enumerations_agree, family_enumerates}
use Rattle.theory.proofs.DistinctEvents.{events_distinct}
use Rattle.tree_file.specs.Format.{node_count}
use Rattle.tree_file.specs.NodeTable.{fault_tree, rank, table_of}
use Rattle.tree_file.specs.WellFormed.{WellFormed}
use Rattle.tree_file.proofs.NodeTable.{table_linked_once, table_numbered, table_ranked}
use Rattle.node_sets.specs.Requirements.{node_sets}

module _ (tree : List ℕ) (w : WellFormed tree) (i : ℕ) (l : i < node_count tree) where
  -- every minimal cut set of the node is one of its sets, once, and no other set is
  pub node_sets_enumerated : Enumerates (fault_tree tree i) (node_sets tree i)
  node_sets_enumerated =
      family_enumerates (fault_tree tree i)
      (events_distinct (table_of tree) (rank tree) (table_ranked tree w) (table_numbered tree w)
      (table_linked_once tree w) i l)

  -- whatever enumerates them has as many
  pub node_count_means : (f : Family) → Enumerates (fault_tree tree i) f → f.count ≡ (node_sets tree i).count
  node_count_means f e = enumerations_agree (fault_tree tree i) f (node_sets tree i) e node_sets_enumerated
