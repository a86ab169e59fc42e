-- Demands 2 and 3 of document 01, of an answer and the work slices after it. Demand 2: the exact ends are those of
-- 004's interval, and the unreliability is the bottom-up reckoning. Demand 3: a marked end is the exact end; an
-- unmarked one lies outward of it (a lower end below, an upper end above); either is off by less than 2 × E − 1 units.
-- And the top probability lies between the two ends answered, these included.
use Rattle.std.specs.Prelude.{ℕ, ◌-◌, ◌*◌, ◌<◌, List, Result, Ok, Err}
use Rattle.theory.specs.Fraction.{Fraction, SameProbability}
use Rattle.theory.specs.Unreliability.{unreliability}
use Rattle.theory.specs.BottomUp.{bottom_up}
use Rattle.theory.specs.Interval.{Inside, units_interval, interval_bottom_up}
use Rattle.theory.specs.Rounding.{Direction, end_of}
use Rattle.theory.specs.Promise.{Promised, exact_end, Probabilities, Choice}
use Rattle.tree_file.specs.Format.{node_count}
use Rattle.tree_file.specs.NodeTable.{fault_tree}
use Rattle.event_cut.specs.EventCut.{event_cut}
use Rattle.rounding.specs.Ends.{end_in}
use Rattle.work_slices.specs.Slices.{Slices, stored_end}
use Rattle.refusals.specs.declared.refusal.Refusal.{Refusal}
use Rattle.tree_file.specs.NodeTable.{root}
use Rattle.monitor.specs.declared.question.Report.{Report}

-- 2 × E − 1, by how many units an end may be off for E basic events: an accepted tree has at least one, so that the
-- subtraction does not stop at 0.
abbrev pub allowance : ℕ → ℕ
allowance E = 2 * E - 1

-- Demands 2 and 3 of an answered question in units of which U make 1. Demand 2 has two parts, of every node: its exact
-- ends, and its unreliability. Demand 3 has three: every node's two ends in the slices, each against the node's
-- unreliability with every event at that end of its exact cut, for the E of the answer; the answer's own two ends,
-- against the root's; and the top probability, whatever fraction each event has inside its cut.
pub record Kept (U : ℕ) (report : Report) (tree sheet : List ℕ) (k n : ℕ) (s : Slices) : Type 0 where
  -- a node's exact ends are the ends of the interval that 004's equation (6) gives it by the events' exact cuts
  pub interval_ends : (w : Direction) (i : ℕ) → i < node_count tree
      → SameProbability (exact_end w (event_cut U sheet k n) (fault_tree tree i))
      (end_of w (interval_bottom_up (event_cut U sheet k n) (fault_tree tree i)))
  -- whatever probability each event has, a node's unreliability, the sum over all cut sets, is the bottom-up reckoning
  pub bottom_up_agrees : (p : ℕ → Fraction) → Probabilities report.events p → (i : ℕ) → i < node_count tree
      → SameProbability (unreliability p (fault_tree tree i)) (bottom_up p (fault_tree tree i))
  -- an end is exact where it is marked, else outward of the exact end, by less than 2 × E − 1 units
  pub node_ends : (w : Direction) (i : ℕ) → i < node_count tree
      → Promised U w (allowance report.events) (stored_end w s i)
      (exact_end w (event_cut U sheet k n) (fault_tree tree i))
  -- each end answered is so promised of the root, the last node
  pub root_ends : (w : Direction)
      → Promised U w (allowance report.events) (end_in w report.ends)
      (exact_end w (event_cut U sheet k n) (fault_tree tree (root tree)))
  -- whatever fraction each event has inside its cut, the top probability lies in the reported interval
  pub contained : (p : ℕ → Fraction) → Choice (event_cut U sheet k n) report.events p
      → Inside (units_interval U report.ends.lower.value report.ends.upper.value)
      (unreliability p (fault_tree tree (root tree)))

-- What `question` promises beside its definitions: demands 2 and 3, of every question that is answered. Of one that is
-- refused it asks nothing, since no end is reported.
abbrev pub PromisesKept : ℕ → Result Report Refusal → List ℕ → List ℕ → ℕ → ℕ → Slices → Type 0
PromisesKept U (Err r) tree sheet k n s = Unit {0}
PromisesKept U (Ok report) tree sheet k n s = Kept U report tree sheet k n s
