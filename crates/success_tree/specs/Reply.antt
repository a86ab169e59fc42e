-- What the call answers, and what it leaves in the two lent buffers.
use Rattle.std.specs.Prelude.{ℕ, ◌&&◌, List, [], ◌∷◌, ◌++◌, length, leb}
use Rattle.refusals.specs.declared.rule.Rule.TheVariants.{ShortMirror}
use Rattle.refusals.specs.FirstFault.{FirstFault, unless, first_of}
use Rattle.held_files.specs.HandIn.{store_by}
use Rattle.held_pair.specs.Standing.{held_tree, held_sheet, pair_rules}
use Rattle.held_files.specs.declared.state.State.{State}
use Rattle.dual_files.specs.Tree.{dual_tree}
use Rattle.dual_files.specs.Sheet.{complement_sheet}
use Rattle.held_files.specs.declared.state.Reply.{Reply}

-- 31: a buffer is shorter than its held file.
abbrev pub short_buffers : State → ℕ → ℕ → FirstFault
short_buffers state tree_room sheet_room =
    unless (leb state.tree_len tree_room && leb state.sheet_len sheet_room) ShortMirror 0

module _ (state : State) (tree_store sheet_store tree_buffer sheet_buffer : List ℕ) where
  -- the rules of the call, in document 02's order: 21, 22, 23 tree, 23 sheet, 24, 31
  abbrev pub dual_rules : List FirstFault
  dual_rules =
      pair_rules state tree_store sheet_store
      ++ (short_buffers state (length tree_buffer) (length sheet_buffer) ∷ [])

  -- refused by the first fault, or written; the state comes back as it was
  unfoldable pub reply_of : Reply (Unit {0})
  reply_of = record { state = state; outcome = first_of dual_rules }

  -- the dual files at the fronts of the buffers, as a hand-in leaves a file in its store
  unfoldable pub tree_left : List ℕ
  tree_left = store_by (first_of dual_rules) (dual_tree (held_tree state tree_store)) tree_buffer

  unfoldable pub sheet_left : List ℕ
  sheet_left = store_by (first_of dual_rules) (complement_sheet (held_sheet state sheet_store)) sheet_buffer
