-- De Morgan's law on what is reported, of two pairs that are held alike: the dual pair is accepted and fits, and
-- every node's ends at every level are those of the held pair turned over.
use Rattle.std.specs.Prelude.{ℕ, ◌-◌, ◌<◌, ◌≡◌, List, Ok, Err}
use Rattle.theory.specs.Rounding.{Direction, down, up, End}
use Rattle.refusals.specs.FirstFault.{FirstFault}
use Rattle.tree_file.specs.Format.{node_count}
use Rattle.event_cut.specs.Level.{IsLevel}
use Rattle.work_slices.specs.Slices.{Slices, Long, stored_end}
use Rattle.evaluation.specs.Report.{node_end}
use Rattle.held_pair.specs.Standing.{held_tree, held_sheet, pair_standing}
use Rattle.monitor.specs.Question.{slices_left}
use Rattle.held_files.specs.declared.state.State.{State}
use Rattle.dual_files.specs.Tree.{dual_tree}
use Rattle.dual_files.specs.Sheet.{complement_sheet}

-- Two ends each of a node, lower (down) and upper (up), by direction: each is U minus the other pair's opposite end,
-- and marked as that one is. ℕ's − stops at 0, never met as no end passes U (evaluation's `node_in_units`).
pub record TurnedOver (U : ℕ) (held dual : Direction → End) : Type 0 where
  pub lower : (held down).value ≡ U - (dual up).value
  pub upper : (held up).value ≡ U - (dual down).value
  pub lower_mark : (held down).exact ≡ (dual up).exact
  pub upper_mark : (held up).exact ≡ (dual down).exact

-- The pair in the two buffers is the dual of the pair in the two stores.
pub record Law (U : ℕ) (state : State) (tree_store sheet_store tree_buffer sheet_buffer : List ℕ) : Type 0 where
  -- both its files are accepted and fit each other: the pair has the standing of the held one
  pub accepted : pair_standing state tree_buffer sheet_buffer ≡ pair_standing state tree_store sheet_store
  -- what is reported of every node at level k of n
  pub node_ends : (k n : ℕ) → IsLevel k n → (i : ℕ) → i < node_count (held_tree state tree_store)
      → TurnedOver U
      (λ w. node_end U w (held_tree state tree_store) (held_sheet state sheet_store) k n i)
      (λ w. node_end U w (held_tree state tree_buffer) (held_sheet state sheet_buffer) k n i)
  -- what a question of either pair leaves in work slices with a place for every node
  pub stored_ends : (k n : ℕ) → IsLevel k n → (s t : Slices) → Long (node_count (held_tree state tree_store)) s
      → Long (node_count (held_tree state tree_store)) t → (i : ℕ) → i < node_count (held_tree state tree_store)
      → TurnedOver U
      (λ w. stored_end w (slices_left state tree_store sheet_store k n s) i)
      (λ w. stored_end w (slices_left state tree_buffer sheet_buffer k n t) i)
  -- turned over again, the tree has its bytes back, and every node what is reported of it, with its marks
  pub tree_restored : dual_tree (held_tree state tree_buffer) ≡ held_tree state tree_store
  pub ends_restored : (k n : ℕ) → IsLevel k n → (w : Direction) (i : ℕ) → i < node_count (held_tree state tree_store)
      → node_end U w (dual_tree (held_tree state tree_buffer)) (complement_sheet (held_sheet state sheet_buffer)) k n
      i
      ≡ node_end U w (held_tree state tree_store) (held_sheet state sheet_store) k n i

-- What `write_success_tree` promises beside its definitions. Of a call that is refused it asks nothing.
abbrev pub LawKept : ℕ → FirstFault → State → List ℕ → List ℕ → List ℕ → List ℕ → Type 0
LawKept U (Err r) state tree_store sheet_store tree_buffer sheet_buffer = Unit {0}
LawKept U (Ok tt) state tree_store sheet_store tree_buffer sheet_buffer =
    Law U state tree_store sheet_store tree_buffer sheet_buffer
