-- What the functions that write a dual file ask, for their contracts alone: `write_success_tree` asks nothing.
use Rattle.std.specs.Prelude.{ℕ, ◌≤◌, ◌<◌, ◌≡◌, List, length}
use Rattle.std.specs.Borrow.{Bor}
use Rattle.tree_file.specs.Format.{node_count}
use Rattle.tree_file.specs.WellFormed.{WellFormed as WellFormedTree}
use Rattle.opinion_sheet.specs.Format.{event_count}
use Rattle.opinion_sheet.specs.WellFormed.{WellFormed as WellFormedSheet}

-- Of each word that a function gives of a file, for the first so many places of a row.
abbrev pub EachWord : {W : Type 0} → (Bor (List ℕ) → ℕ → W → Type 0) → List ℕ → ℕ → (ℕ → W → Type 0) → Type 0
EachWord {W} gives file count P =
    (shown : Bor (List ℕ)) → shown.now ≡ file → (i : ℕ) → i < count → (word : W) → gives shown i word → P i word

-- An accepted tree file, its number of nodes, and a buffer with room for it.
pub record TreeAsked (tree : List ℕ) (nodes : ℕ) (buffer : List ℕ) : Type 0 where
  pub well_formed : WellFormedTree tree
  pub nodes_is : nodes ≡ node_count tree
  pub room : length tree ≤ length buffer

-- An accepted sheet, its number of basic events, and a buffer with room for it.
pub record SheetAsked (sheet : List ℕ) (events : ℕ) (buffer : List ℕ) : Type 0 where
  pub well_formed : WellFormedSheet sheet
  pub events_is : events ≡ event_count sheet
  pub room : length sheet ≤ length buffer
