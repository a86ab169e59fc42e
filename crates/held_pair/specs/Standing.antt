-- Whether a level can be put to the held pair: document 01's refusals of a question as named faults, and the lists of
-- them that a call goes through in order. Both held files are judged as their bytes stand.
use Rattle.std.specs.Prelude.{ℕ, Bool, ◌&&◌, List, [], ◌∷◌, length, take, leb, eqb, Result, Ok, Err}
use Rattle.refusals.specs.FirstFault.{FirstFault, unless, first_of, judged_by}
use Rattle.refusals.specs.declared.refusal.Refusal.{Refusal}
use Rattle.refusals.specs.declared.rule.Rule.TheVariants.{WrongLevel, NoTree, NoSheet, Changed, OtherTree, ShortSlice}
use Rattle.tree_judging.specs.Judged.{fault_of as tree_fault, counts_of as tree_counts}
use Rattle.tree_judging.specs.declared.judgement.Counts.{Counts}
use Rattle.sheet_judging.specs.Judged.{fault_of as sheet_fault, counts_of as sheet_counts}
use Rattle.sheet_judging.specs.declared.judgement.Counts.{Counts as SheetCounts}
use Rattle.event_cut.specs.Level.{max_levels}
use Rattle.work_slices.specs.Slices.{Slices}
use Rattle.held_files.specs.declared.state.State.{State}

-- The held bytes: the front of the store. A length beyond the store, of which the whole store would be taken, is
-- refused by 23.
abbrev pub held : ℕ → List ℕ → List ℕ
held len store = take len store

-- The tree file held, as its bytes stand.
abbrev pub held_tree : State → List ℕ → List ℕ
held_tree state store = held state.tree_len store

-- The sheet held, as its bytes stand.
abbrev pub held_sheet : State → List ℕ → List ℕ
held_sheet state store = held state.sheet_len store

-- Level k of n: n is 1 to 1,000, k is 0 to n.
abbrev pub in_range : ℕ → ℕ → Bool
in_range k n = leb 1 n && leb n max_levels && leb k n

-- 13: the level is out of range.
abbrev pub level_fault : ℕ → ℕ → FirstFault
level_fault k n = unless (in_range k n) WrongLevel 0

-- 21: no tree is held.
abbrev pub no_tree : State → FirstFault
no_tree state = unless (leb 1 state.tree_len) NoTree 0

-- 22: no sheet is held.
abbrev pub no_sheet : State → FirstFault
no_sheet state = unless (leb 1 state.sheet_len) NoSheet 0

-- 23, in place of any fault of a held file.
abbrev pub changed_by : ℕ → FirstFault → FirstFault
changed_by place (Err r) = Err (record { rule = Changed; place = place })
changed_by place (Ok tt) = Ok tt

-- 23: the held length is beyond the store, or the held bytes are no longer an accepted file.
unfoldable pub changed : ℕ → (List ℕ → FirstFault) → ℕ → List ℕ → FirstFault
changed place fault len store =
    first_of (unless (leb len (length store)) Changed place ∷ changed_by place (fault (held len store)) ∷ [])

-- 23 of the tree, at place 0.
abbrev pub tree_changed : State → List ℕ → FirstFault
tree_changed state store = changed 0 tree_fault state.tree_len store

-- 23 of the sheet, at place 1.
abbrev pub sheet_changed : State → List ℕ → FirstFault
sheet_changed state store = changed 1 sheet_fault state.sheet_len store

-- The tree numbers agree, and the sheet's E is the tree's count of basic events.
abbrev pub fitting : Counts → SheetCounts → Bool
fitting tree sheet = eqb tree.number sheet.number && eqb sheet.events tree.events

-- 24: the sheet is for another tree, or for another number of basic events. The counts are those of accepted files: any
-- other is refused by 23, which comes before.
abbrev pub other_tree : List ℕ → List ℕ → FirstFault
other_tree tree sheet = unless (fitting (tree_counts tree) (sheet_counts sheet)) OtherTree 0

-- 25: one of the slices is shorter than N, the held tree's number of nodes. All other rules come before: the tree is an
-- accepted one.
abbrev pub short_slice : ℕ → Slices → FirstFault
short_slice nodes s =
    unless (leb nodes (length s.lower) && leb nodes (length s.upper) && leb nodes (length s.marks))
    ShortSlice 0

-- The rules of a call on the tree alone: 21, 23.
abbrev pub tree_rules : State → List ℕ → List FirstFault
tree_rules state tree_store = no_tree state ∷ tree_changed state tree_store ∷ []

-- The rules of a call on the pair: 21, 22, 23 tree, 23 sheet, 24.
abbrev pub pair_rules : State → List ℕ → List ℕ → List FirstFault
pair_rules state tree_store sheet_store =
    no_tree state
    ∷ no_sheet state
    ∷ tree_changed state tree_store
    ∷ sheet_changed state sheet_store
    ∷ other_tree (held_tree state tree_store) (held_sheet state sheet_store)
    ∷ []

-- The rules of a level put to the pair: 13 comes first.
abbrev pub level_rules : State → List ℕ → List ℕ → ℕ → ℕ → List FirstFault
level_rules state tree_store sheet_store k n = level_fault k n ∷ pair_rules state tree_store sheet_store

-- The standing by a list of rules: refused by the first fault, or ready with the held tree's counts where there is
-- none.
abbrev pub standing : List FirstFault → State → List ℕ → Result Counts Refusal
standing rules state tree_store = judged_by (first_of rules) (tree_counts (held_tree state tree_store))

-- The standing of the tree alone.
unfoldable pub tree_standing : State → List ℕ → Result Counts Refusal
tree_standing state tree_store = standing (tree_rules state tree_store) state tree_store

-- The standing of the pair, for any level.
unfoldable pub pair_standing : State → List ℕ → List ℕ → Result Counts Refusal
pair_standing state tree_store sheet_store = standing (pair_rules state tree_store sheet_store) state tree_store

-- The standing of the pair for level k of n.
unfoldable pub standing_of : State → List ℕ → List ℕ → ℕ → ℕ → Result Counts Refusal
standing_of state tree_store sheet_store k n =
    standing (level_rules state tree_store sheet_store k n) state tree_store
