-- The main theorems on a table. Demand 2: every node's unreliability is its bottom-up reckoning, and its exact ends are
-- the ends of its alpha-cut. Demand 3: its reported ends keep their promises for the table's E events, and its
-- unreliability lies in the reported interval.
use Prim.Native.Nat.{ℕ, ◌-◌, ◌*◌, ◌≤◌, ◌<◌}
use native.Mathlib.Omega.{arith}
use Rattle.theory.specs.Fraction.{Fraction, SameProbability}
use Rattle.theory.specs.FaultTree.{events, Each}
use Rattle.theory.specs.Unreliability.{unreliability}
use Rattle.theory.specs.BottomUp.{bottom_up}
use Rattle.theory.specs.Interval.{Interval, Inside, Ordered, units_interval, interval_bottom_up}
use Rattle.theory.specs.Rounding.{Direction, down, up, end_of, reported}
use Rattle.theory.specs.Promise.{Promised, exact_end, Probabilities, Choice}
use Rattle.theory.specs.NodeTable.{Table, tree_of, event_count, Numbered, Ranked, LinkedOnce}
use Rattle.theory.proofs.Each.{each_map}
use Rattle.theory.proofs.DistinctEvents.{each_event_below, events_distinct, events_few}
use Rattle.theory.proofs.Promised.{promised_widen}
use Rattle.theory.proofs.ReportedEnds.{unreliability_agrees, exact_end_is_cut}
use Rattle.theory.proofs.ReportedEnds.{reported_at_most, reported_promised, top_contained}

module _ (table : Table) (rank : ℕ → ℕ) (ranked : Ranked table rank) (numbered : Numbered table)
    (once : LinkedOnce table) where
  -- what holds of every event of the table holds of every event of a node's tree
  pub each_of_table : (P : ℕ → Type 0) → ((e : ℕ) → e < event_count table → P e) → (i : ℕ) → i < table.size
      → Each P (events (tree_of table i))
  each_of_table P h i l =
      each_map (λ e. e < event_count table) P h (events (tree_of table i))
      (each_event_below table rank ranked numbered once i l)

  -- demand 2, of every node: whatever probability each event has, the sum over all cut sets is the bottom-up reckoning
  pub node_agrees : (p : ℕ → Fraction) → Probabilities (event_count table) p → (i : ℕ) → i < table.size
      → SameProbability (unreliability p (tree_of table i)) (bottom_up p (tree_of table i))
  node_agrees p h i l =
      unreliability_agrees p (tree_of table i) (events_distinct table rank ranked numbered once i l)
      (each_of_table _ h i l)

  module _ (cuts : ℕ → Interval) (ordered : (e : ℕ) → e < event_count table → Ordered (cuts e)) where
    -- demand 2, of every node: its exact ends are the ends of the alpha-cut that 004 gives it
    pub node_exact_ends : (w : Direction) (i : ℕ) → i < table.size
        → SameProbability (exact_end w cuts (tree_of table i)) (end_of w (interval_bottom_up cuts (tree_of table i)))
    node_exact_ends w i l =
        exact_end_is_cut cuts (tree_of table i) (each_of_table _ ordered i l)
        (events_distinct table rank ranked numbered once i l) w

    module _ (U : ℕ) (positive : 0 < U) where
      -- no reported end passes 1
      pub node_at_most : (w : Direction) (i : ℕ) → i < table.size → (reported U w cuts (tree_of table i)).value ≤ U
      node_at_most w i l = reported_at_most cuts (tree_of table i) (each_of_table _ ordered i l) U positive w

      -- demand 3, of every node: less than 2 × E − 1 units off for the table's E events
      pub node_promised : (w : Direction) (i : ℕ) → i < table.size
          → Promised U w (2 * event_count table - 1) (reported U w cuts (tree_of table i))
          (exact_end w cuts (tree_of table i))
      node_promised w i l =
          promised_widen w (omega (arith, events_few table rank ranked numbered once i l))
          (reported_promised cuts (tree_of table i) (each_of_table _ ordered i l)
          (events_distinct table rank ranked numbered once i l) U positive w)

      -- demand 3, whatever fractions the events have inside their cuts
      pub node_contained : (i : ℕ) → i < table.size → (p : ℕ → Fraction) → Choice cuts (event_count table) p
          → Inside (units_interval U (reported U down cuts (tree_of table i)).value
          (reported U up cuts (tree_of table i)).value) (unreliability p (tree_of table i))
      node_contained i l p inside =
          top_contained cuts (tree_of table i) (each_of_table _ ordered i l)
          (events_distinct table rank ranked numbered once i l) U positive p (each_of_table _ inside i l)
