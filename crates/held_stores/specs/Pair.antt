-- A pair that is handed in, the tree file first, where nothing is held and the stores are zeros.
use Rattle.std.specs.Prelude.{◌≡◌, List, ℕ, Err, length, replicate}
use Rattle.refusals.specs.declared.refusal.Refusal.{Refusal}
use Rattle.refusals.specs.FirstFault.{FirstFault, ◌or_else◌}
use Rattle.held_files.specs.HandIn.{tree_answer, sheet_answer, nothing_held}
use Rattle.held_pair.specs.Standing.{held_tree, held_sheet}
use Rattle.held_files.specs.declared.state.Reply.{Reply}
use Rattle.held_files.specs.declared.held.TheConstants.{MOST_TREE, MOST_SHEET}
use Rattle.held_stores.specs.declared.held.Held.{Held}

abbrev pub tree_answered : List ℕ → Reply (Unit {0})
tree_answered tree = tree_answer nothing_held tree (replicate MOST_TREE 0)

abbrev pub sheet_answered : List ℕ → List ℕ → Reply (Unit {0})
sheet_answered tree sheet = sheet_answer (tree_answered tree).state sheet (replicate MOST_SHEET 0)

-- The first refusal of the two.
abbrev pub pair_fault : List ℕ → List ℕ → FirstFault
pair_fault tree sheet = (tree_answered tree).outcome or_else (sheet_answered tree sheet).outcome

-- The pair is held, byte for byte.
abbrev pub HoldsPair : Held → List ℕ → List ℕ → Type 0
HoldsPair held tree sheet = (held_tree held.state held.tree ≡ tree) × (held_sheet held.state held.sheet ≡ sheet)

-- The files of the pair that is held are that long.
abbrev pub HoldsLengths : Held → ℕ → ℕ → Type 0
HoldsLengths held tree_len sheet_len =
    (length (held_tree held.state held.tree) ≡ tree_len) × (length (held_sheet held.state held.sheet) ≡ sheet_len)

-- That refusal is the first one of two files that are that long.
abbrev pub RefusesLengths : Refusal → ℕ → ℕ → Type 0
RefusesLengths refusal tree_len sheet_len =
    (tree : List ℕ) × (sheet : List ℕ) × (length tree ≡ tree_len) × (length sheet ≡ sheet_len)
    × (pair_fault tree sheet ≡ Err refusal)
