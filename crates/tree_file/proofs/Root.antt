-- What the theory of tables says of a well-formed file: its tree opens node by node, and the root has all basic events.
use Prim.Native.Nat.{ℕ, ◌-◌, ◌<◌}
use mathlib.Core.Path.{◌≡◌}
use mathlib.Core.Logic.{◌↔◌}
use mathlib.Core.List.{List}
use lib.Dec.{T}
use Rattle.theory.specs.FaultTree.{beneath, contains, events}
use Rattle.theory.specs.NodeTable.{build}
use Rattle.theory.proofs.TreeOf.{tree_unfolds}
use Rattle.theory.proofs.DistinctEvents.{beneath_is_events, events_below, root_has_all}
use Rattle.tree_file.specs.Format.{link, node_count}
use Rattle.tree_file.specs.Tallies.{event_count}
use Rattle.tree_file.specs.WellFormed.{WellFormed}
use Rattle.tree_file.specs.NodeTable.{fault_tree, node_of, rank, table_of}
use Rattle.tree_file.proofs.NodeTable.{table_events, table_linked_once, table_numbered, table_ranked, table_rooted}

module _ (file : List ℕ) (w : WellFormed file) where
  -- The tree of a node is the basic event that its record names, or the gate over the trees of the nodes that its links
  -- name: the end of the growth in `tree_of` is never reached.
  pub tree_opens : (i : ℕ) → i < node_count file
      → fault_tree file i ≡ build (fault_tree file) (link file) (node_of file i)
  tree_opens i l = tree_unfolds (table_of file) (rank file) (table_ranked file w) i l

  -- The root is node N − 1: a well-formed file has a node, so the subtraction never stops at 0.
  root_inside : node_count file - 1 < node_count file
  root_inside = (table_rooted file w).root_inside

  beneath_root : beneath (fault_tree file (node_count file - 1)) ≡ events (fault_tree file (node_count file - 1))
  beneath_root =
      beneath_is_events (table_of file) (rank file) (table_ranked file w) (table_numbered file w)
      (table_linked_once file w) (node_count file - 1) root_inside

  -- An event stands beneath the root exactly when its number is below E.
  pub root_has_all_events : (e : ℕ)
      → T (contains e (beneath (fault_tree file (node_count file - 1)))) ↔ (e < event_count file)
  root_has_all_events e = (below, stands)
    where
      below : T (contains e (beneath (fault_tree file (node_count file - 1)))) → e < event_count file
      below t =
          rw (table_events file w) at
          (events_below (table_of file) (rank file) (table_ranked file w) (table_numbered file w)
          (table_linked_once file w) (node_count file - 1) root_inside e (rw beneath_root at t))

      stands : e < event_count file → T (contains e (beneath (fault_tree file (node_count file - 1))))
      stands l =
          rw beneath_root
          (root_has_all (table_of file) (rank file) (table_ranked file w) (table_numbered file w)
          (table_linked_once file w) (node_count file - 1) (table_rooted file w) e (rw (table_events file w) l))
