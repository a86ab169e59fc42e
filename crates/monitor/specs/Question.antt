-- What a question answers and what it leaves in the work slices, by the level asked, the slices lent for it and the two
-- files held. `question` answers `reply_of` and leaves `slices_left`.
use Rattle.std.specs.Prelude.{ℕ, List, [], ◌∷◌, ◌++◌, Result, Ok, Err}
use Rattle.refusals.specs.FirstFault.{FirstFault, first_of, judged_by}
use Rattle.refusals.specs.declared.refusal.Refusal.{Refusal}
use Rattle.tree_file.specs.Format.{node_count}
use Rattle.tree_file.specs.NodeTable.{root}
use Rattle.tree_file.specs.Tallies.{event_count}
use Rattle.opinion_sheet.specs.Format.{unit}
use Rattle.work_slices.specs.Slices.{Slices}
use Rattle.evaluation.specs.Report.{node_enclosure, slices_after}
use Rattle.held_pair.specs.Standing.{held_tree, held_sheet, level_rules, short_slice}
use Rattle.held_files.specs.declared.state.State.{State}
use Rattle.monitor.specs.declared.question.Report.{Report}
use Rattle.held_files.specs.declared.state.Reply.{Reply}

-- The answer repeats the root's ends and marks and gives E.
unfoldable pub report_of : ℕ → List ℕ → List ℕ → ℕ → ℕ → Report
report_of U tree sheet k n = record { ends = node_enclosure U tree sheet k n (root tree); events = event_count tree }

-- The slices after: as evaluated where the question is answered, as they were where it is refused.
abbrev pub slices_by : FirstFault → Slices → Slices → Slices
slices_by (Err r) before after = before
slices_by (Ok tt) before after = after

module _ (state : State) (tree_store sheet_store : List ℕ) (k n : ℕ) (s : Slices) where
  -- the two files held
  abbrev tree : List ℕ
  tree = held_tree state tree_store

  abbrev sheet : List ℕ
  sheet = held_sheet state sheet_store

  -- the rules of a question, in document 01's order: 13, 21 to 24, 25
  abbrev pub question_rules : List FirstFault
  question_rules = level_rules state tree_store sheet_store k n ++ (short_slice (node_count tree) s ∷ [])

  -- the first refusal, or the root's results and E
  unfoldable pub outcome_of : Result Report Refusal
  outcome_of = judged_by (first_of question_rules) (report_of (unit sheet) tree sheet k n)

  -- the state comes back as it was
  abbrev pub reply_of : Reply Report
  reply_of = record { state = state; outcome = outcome_of }

  -- every node's ends at its place, the rest as it was
  unfoldable pub slices_left : Slices
  slices_left = slices_by (first_of question_rules) s (slices_after (unit sheet) tree sheet k n s)
