-- What a hand-in answers, the state after it, and every byte of the store after it. A tree and a sheet go the same way:
-- what differs is the fault of the file and which length the state holds.
use Rattle.std.specs.Prelude.{ℕ, List, [], ◌∷◌, ◌++◌, length, drop, leb, Ok, Err}
use Rattle.refusals.specs.FirstFault.{FirstFault, unless, first_of}
use Rattle.refusals.specs.declared.rule.Rule.TheVariants.{ShortStore}
use Rattle.tree_judging.specs.Judged.{fault_of as tree_fault}
use Rattle.sheet_judging.specs.Judged.{fault_of as sheet_fault}
use Rattle.held_files.specs.declared.state.State.{State}
use Rattle.held_files.specs.declared.state.Reply.{Reply}

-- A file is refused by its own fault; an accepted one must fit its store: 20 comes last.
abbrev pub hand_in_fault : FirstFault → List ℕ → List ℕ → FirstFault
hand_in_fault fault file store = first_of (fault ∷ unless (leb (length file) (length store)) ShortStore 0 ∷ [])

-- The answer, by the state before and the state that holds the new file: a refusal changes nothing.
abbrev pub answer_by : FirstFault → State → State → Reply (Unit {0})
answer_by (Err r) before after = record { state = before; outcome = Err r }
answer_by (Ok tt) before after = record { state = after; outcome = Ok tt }

-- The store after: the file at its front and the rest unchanged, or as it was where the file is refused. A file longer
-- than the store, whose bytes would run beyond it, is refused by 20.
abbrev pub store_by : FirstFault → List ℕ → List ℕ → List ℕ
store_by (Err r) file store = store
store_by (Ok tt) file store = file ++ drop (length file) store

-- The answer for a file with that first fault.
unfoldable pub handed_answer : FirstFault → List ℕ → List ℕ → State → State → Reply (Unit {0})
handed_answer fault file store before after = answer_by (hand_in_fault fault file store) before after

-- Its store after.
unfoldable pub handed_store : FirstFault → List ℕ → List ℕ → List ℕ
handed_store fault file store = store_by (hand_in_fault fault file store) file store

-- The state that holds a tree file of that length, and the sheet as before.
abbrev pub holding_tree : ℕ → State → State
holding_tree n state = record { tree_len = n; sheet_len = state.sheet_len }

-- The state that holds a sheet of that length, and the tree as before.
abbrev pub holding_sheet : ℕ → State → State
holding_sheet n state = record { tree_len = state.tree_len; sheet_len = n }

-- What handing in a tree file answers.
abbrev pub tree_answer : State → List ℕ → List ℕ → Reply (Unit {0})
tree_answer state file store =
    handed_answer (tree_fault file) file store state (holding_tree (length file) state)

-- The tree's store after it.
abbrev pub tree_store : List ℕ → List ℕ → List ℕ
tree_store file store = handed_store (tree_fault file) file store

-- What handing in a sheet answers.
abbrev pub sheet_answer : State → List ℕ → List ℕ → Reply (Unit {0})
sheet_answer state file store =
    handed_answer (sheet_fault file) file store state (holding_sheet (length file) state)

-- The sheet's store after it.
abbrev pub sheet_store : List ℕ → List ℕ → List ℕ
sheet_store file store = handed_store (sheet_fault file) file store

-- The state that holds nothing: what `drop_both` answers.
abbrev pub nothing_held : State
nothing_held = record { tree_len = 0; sheet_len = 0 }
