-- The most bytes of a file that can be held.
use Rattle.std.specs.Prelude.{ℕ}

-- A tree file of 1,024 nodes, with a link to each but the root.
abbrev pub most_tree : ℕ
most_tree = 7175

-- An opinion sheet of 1,024 basic events.
abbrev pub most_sheet : ℕ
most_sheet = 17434
