-- What holds of every node of a pair: its exact ends and its unreliability are as demand 2 says, and its reported ends,
-- in the sheet's unit, are at most 1 and keep demand 3.
use Prim.Native.Nat.{ℕ, ◌-◌, ◌*◌, ◌≤◌, ◌<◌}
use mathlib.Core.List.{List}
use lib.Dec.{lit<}
use Rattle.theory.specs.Fraction.{Fraction, SameProbability}
use Rattle.theory.specs.Unreliability.{unreliability}
use Rattle.theory.specs.BottomUp.{bottom_up}
use Rattle.theory.specs.Interval.{Inside, Ordered, units_interval, interval_bottom_up}
use Rattle.theory.specs.Rounding.{Direction, down, up, end_of}
use Rattle.theory.specs.Promise.{Promised, exact_end, Probabilities, Choice}
use Rattle.theory.specs.NodeTable.{event_count as table_event_count}
use Rattle.theory.proofs.CutOrdered.{cut_ordered}
use Rattle.theory.proofs.NodePromised.{node_agrees, node_exact_ends, node_at_most, node_promised, node_contained}
use Rattle.tree_file.specs.Format.{node_count}
use Rattle.tree_file.specs.Tallies.{event_count}
use Rattle.tree_file.specs.NodeTable.{table_of, fault_tree, rank}
use Rattle.tree_file.proofs.NodeTable.{table_ranked, table_numbered, table_linked_once, table_events}
use Rattle.opinion_sheet.specs.Format.{unit}
use Rattle.event_cut.specs.EventCut.{event_cut}
use Rattle.event_cut.proofs.EventRising.{event_rising}
use Rattle.evaluation.specs.Report.{node_end}
use Rattle.evaluation.specs.Requirements.{Pair}

module _ (tree sheet : List ℕ) (k n : ℕ) (pair : Pair tree sheet k n) where
  -- the cuts of the tree's events are intervals of probabilities
  pub cuts_ordered : (e : ℕ) → e < table_event_count (table_of tree) → Ordered (event_cut (unit sheet) sheet k n e)
  cuts_ordered e l =
      cut_ordered _ k n
      (event_rising sheet pair.sheet_well_formed e
      (rw (pair.same_events, ← table_events tree pair.tree_well_formed) l))
      pair.level.n_positive pair.level.k_n

  -- whatever probability each event has, the sum over all cut sets is the bottom-up reckoning
  pub node_bottom_up : (p : ℕ → Fraction) → Probabilities (event_count tree) p → (i : ℕ) → i < node_count tree
      → SameProbability (unreliability p (fault_tree tree i)) (bottom_up p (fault_tree tree i))
  node_bottom_up p h i l =
      node_agrees (table_of tree) (rank tree) (table_ranked tree pair.tree_well_formed)
      (table_numbered tree pair.tree_well_formed) (table_linked_once tree pair.tree_well_formed) p
      (λ e b. h e (rw (← table_events tree pair.tree_well_formed) b)) i l

  -- the exact ends are the ends of the alpha-cut that 004 gives the node
  pub node_interval_ends : (w : Direction) (i : ℕ) → i < node_count tree
      → SameProbability (exact_end w (event_cut (unit sheet) sheet k n) (fault_tree tree i))
      (end_of w (interval_bottom_up (event_cut (unit sheet) sheet k n) (fault_tree tree i)))
  node_interval_ends w i l =
      node_exact_ends (table_of tree) (rank tree) (table_ranked tree pair.tree_well_formed)
      (table_numbered tree pair.tree_well_formed) (table_linked_once tree pair.tree_well_formed)
      (event_cut (unit sheet) sheet k n) cuts_ordered w i l

  -- no reported end passes U
  pub node_in_units : (w : Direction) (i : ℕ) → i < node_count tree
      → (node_end (unit sheet) w tree sheet k n i).value ≤ unit sheet
  unfolding node_end
  node_in_units w i l =
      node_at_most (table_of tree) (rank tree) (table_ranked tree pair.tree_well_formed)
      (table_numbered tree pair.tree_well_formed) (table_linked_once tree pair.tree_well_formed)
      (event_cut (unit sheet) sheet k n) cuts_ordered (unit sheet) (lit< tt) w i l

  -- every end keeps its promise for the tree's E
  pub node_kept : (w : Direction) (i : ℕ) → i < node_count tree
      → Promised (unit sheet) w (2 * event_count tree - 1) (node_end (unit sheet) w tree sheet k n i)
      (exact_end w (event_cut (unit sheet) sheet k n) (fault_tree tree i))
  unfolding node_end
  node_kept w i l =
      rw (table_events tree pair.tree_well_formed) at
      (node_promised (table_of tree) (rank tree) (table_ranked tree pair.tree_well_formed)
      (table_numbered tree pair.tree_well_formed) (table_linked_once tree pair.tree_well_formed)
      (event_cut (unit sheet) sheet k n) cuts_ordered (unit sheet) (lit< tt) w i l)

  -- the ends enclose the unreliability, whatever fractions the events have inside their cuts
  pub node_encloses : (i : ℕ) → i < node_count tree → (p : ℕ → Fraction)
      → Choice (event_cut (unit sheet) sheet k n) (event_count tree) p
      → Inside (units_interval (unit sheet) (node_end (unit sheet) down tree sheet k n i).value
      (node_end (unit sheet) up tree sheet k n i).value) (unreliability p (fault_tree tree i))
  unfolding node_end
  node_encloses i l p inside =
      node_contained (table_of tree) (rank tree) (table_ranked tree pair.tree_well_formed)
      (table_numbered tree pair.tree_well_formed) (table_linked_once tree pair.tree_well_formed)
      (event_cut (unit sheet) sheet k n) cuts_ordered (unit sheet) (lit< tt) i l p
      (λ e h. inside e (rw (← table_events tree pair.tree_well_formed) h))
