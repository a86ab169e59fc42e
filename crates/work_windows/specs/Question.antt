-- What a question at an hour answers, and what it leaves in the lent buffer and in the work slices. Where no rule is
-- broken, the outcome and the slices are those of monitor's `question` with the buffer, as it is written, for the store
-- of the sheet: `outcome_of` and `slices_left` of monitor.
use Rattle.std.specs.Prelude.{ℕ, List, [], ◌∷◌, ◌++◌, length, drop, leb, Result, Ok, Err}
use Rattle.refusals.specs.declared.rule.Rule.TheVariants.{ShortBuffer}
use Rattle.refusals.specs.FirstFault.{FirstFault, unless, first_of}
use Rattle.refusals.specs.declared.refusal.Refusal.{Refusal}
use Rattle.tree_file.specs.Format.{node_count}
use Rattle.tree_file.specs.Tallies.{event_count}
use Rattle.work_slices.specs.Slices.{Slices}
use Rattle.held_pair.specs.Standing.{held_tree, held_sheet, level_rules, short_slice}
use Rattle.monitor.specs.Question.{outcome_of, slices_by, slices_left}
use Rattle.held_files.specs.declared.state.State.{State}
use Rattle.monitor.specs.declared.question.Report.{Report}
use Rattle.held_files.specs.declared.state.Reply.{Reply}
use Rattle.work_book.specs.BookRules.{book_fault}
use Rattle.hour_sheet.specs.Sheet.{written_sheet}

-- 30: the buffer is shorter than the held sheet.
abbrev pub short_buffer : ℕ → ℕ → FirstFault
short_buffer held room = unless (leb held room) ShortBuffer 0

-- What is lent, by the held tree's E and N and the held sheet's length: 29, 30, 25.
abbrev pub lent_rules : ℕ → ℕ → ℕ → List ℕ → ℕ → Slices → List FirstFault
lent_rules E N held book room s = book_fault E book ∷ short_buffer held room ∷ short_slice N s ∷ []

-- Refused by the first fault, or what the question comes to.
abbrev pub outcome_by : FirstFault → Result Report Refusal → Result Report Refusal
outcome_by (Err r) outcome = Err r
outcome_by (Ok tt) outcome = outcome

-- A lent slice after: as it was where the question is refused.
abbrev pub left_by : FirstFault → List ℕ → List ℕ → List ℕ
left_by (Err r) before after = before
left_by (Ok tt) before after = after

module _ (state : State) (tree_store sheet_store book : List ℕ) (k n hour : ℕ) (buffer : List ℕ) (s : Slices) where
  -- the two files held
  abbrev tree : List ℕ
  tree = held_tree state tree_store

  abbrev sheet : List ℕ
  sheet = held_sheet state sheet_store

  -- the rules of a question at an hour, in document 02's order: 13, 21 to 24, 29, 30, 25
  abbrev pub hour_rules : List FirstFault
  hour_rules =
      level_rules state tree_store sheet_store k n
      ++ lent_rules (event_count tree) (node_count tree) state.sheet_len book (length buffer) s

  -- the buffer with the hour's sheet at its front
  abbrev pub written_buffer : List ℕ
  written_buffer = written_sheet sheet book hour ++ drop state.sheet_len buffer

  -- the first refusal, or what monitor's `question` comes to with the buffer for the store of the sheet
  unfoldable pub hour_outcome : Result Report Refusal
  hour_outcome = outcome_by (first_of hour_rules) (outcome_of state tree_store written_buffer k n s)

  -- the state comes back as it was
  abbrev pub hour_reply : Reply Report
  hour_reply = record { state = state; outcome = hour_outcome }

  -- the hour's sheet at the front of the buffer, the rest as it was
  unfoldable pub buffer_left : List ℕ
  buffer_left = left_by (first_of hour_rules) buffer written_buffer

  -- every node's ends at its place, the rest as it was
  unfoldable pub hour_slices : Slices
  hour_slices = slices_by (first_of hour_rules) s (slices_left state tree_store written_buffer k n s)
