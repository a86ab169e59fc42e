-- The printer's input: 16-bit n, tree length and sheet length, low byte first, then the tree and the sheet. A byte
-- beyond the end would read as 0: an input of less than 6 bytes is excluded by the first test of `well_framed`.
use Rattle.std.specs.Prelude.{ℕ, ◌+◌, Bool, ◌&&◌, List, length, take, drop, leb, eqb}
use Rattle.fields.specs.Fields.{field16}
use Rattle.held_files.specs.Largest.{most_tree, most_sheet}

-- Byte 0: n, the number of levels.
abbrev pub level_count : List ℕ → ℕ
level_count input = field16 input 0

-- Byte 2: the tree's length.
abbrev pub tree_length : List ℕ → ℕ
tree_length input = field16 input 2

-- Byte 4: the sheet's length.
abbrev pub sheet_length : List ℕ → ℕ
sheet_length input = field16 input 4

-- Where the tree ends and the sheet begins.
abbrev pub tree_end : List ℕ → ℕ
tree_end input = 6 + tree_length input

-- The whole is 6 bytes or more, and 6 plus both lengths, which are those of files that can be accepted.
unfoldable pub well_framed : List ℕ → Bool
well_framed input =
    leb 6 (length input)
    && (eqb (length input) (tree_end input + sheet_length input)
    && leb (tree_length input) most_tree
    && leb (sheet_length input) most_sheet)

-- The tree's bytes.
abbrev pub tree_bytes : List ℕ → List ℕ
tree_bytes input = take (tree_length input) (drop 6 input)

-- The sheet's bytes.
abbrev pub sheet_bytes : List ℕ → List ℕ
sheet_bytes input = drop (tree_end input) input
