-- What counting and listing answer: the rules of each call in their order, and the number of minimal cut sets.
use Rattle.std.specs.Prelude.{ℕ, List, [], ◌∷◌, ◌++◌, leb, Result}
use Rattle.theory.specs.FaultTree.{Tree}
use Rattle.theory.specs.CutSetFamily.{family}
use Rattle.refusals.specs.FirstFault.{FirstFault, unless, first_of, judged_by}
use Rattle.refusals.specs.declared.refusal.Refusal.{Refusal}
use Rattle.refusals.specs.declared.rule.Rule.TheVariants.{ManyEvents, ShortList}
use Rattle.tree_judging.specs.declared.judgement.Counts.{Counts}
use Rattle.tree_file.specs.Tallies.{event_count}
use Rattle.tree_file.specs.NodeTable.{fault_tree}
use Rattle.held_pair.specs.Standing.{held_tree, standing, tree_rules}
use Rattle.tree_file.specs.NodeTable.{root}
use Rattle.held_files.specs.declared.state.State.{State}
use Rattle.node_sets.specs.Numbers.{most_events}
use Rattle.held_files.specs.declared.state.Reply.{Reply}

-- The tree of the root.
abbrev pub root_tree : List ℕ → Tree
root_tree tree = fault_tree tree (root tree)

-- The number of the root's minimal cut sets: `family_enumerates` of theory says that the family is of these.
abbrev pub set_count : List ℕ → ℕ
set_count tree = (family (root_tree tree)).count

-- 26: the tree has more basic events than a set's number has bits.
abbrev pub many_events : List ℕ → FirstFault
many_events tree = unless (leb (event_count tree) most_events) ManyEvents 0

-- 27: the lent slice has fewer places than there are minimal cut sets.
abbrev pub short_list : ℕ → ℕ → FirstFault
short_list count room = unless (leb count room) ShortList 0

-- The rules of counting: 21, 23 of the tree, 26.
abbrev pub count_rules : State → List ℕ → List FirstFault
count_rules state tree_store = tree_rules state tree_store ++ (many_events (held_tree state tree_store) ∷ [])

-- Whether the sets can be counted: refused by the first of these, or ready with the tree's counts.
unfoldable pub count_standing : State → List ℕ → Result Counts Refusal
count_standing state tree_store = standing (count_rules state tree_store) state tree_store

-- The rules of listing into a slice of so many places: 21, 23 of the tree, 26, 27.
abbrev pub list_rules : State → List ℕ → ℕ → List FirstFault
list_rules state tree_store room =
    count_rules state tree_store ++ (short_list (set_count (held_tree state tree_store)) room ∷ [])

-- What `count_sets` answers.
unfoldable pub count_outcome : State → List ℕ → Result ℕ Refusal
count_outcome state tree_store =
    judged_by (first_of (count_rules state tree_store)) (set_count (held_tree state tree_store))

-- The outcome of `list_sets` with a slice of so many places.
unfoldable pub list_outcome : State → List ℕ → ℕ → Result ℕ Refusal
list_outcome state tree_store room =
    judged_by (first_of (list_rules state tree_store room)) (set_count (held_tree state tree_store))

-- What `list_sets` answers: the state comes back as it was.
abbrev pub reply_of : State → List ℕ → ℕ → Reply ℕ
reply_of state tree_store room = record { state = state; outcome = list_outcome state tree_store room }
