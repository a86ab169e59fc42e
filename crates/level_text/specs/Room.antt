-- How long a text can be, and how much can be put.
use Rattle.std.specs.Prelude.{ℕ, ◌+◌, ◌*◌, ◌≤◌, List, length}
use Rattle.event_cut.specs.Level.{max_levels}
use Rattle.level_text.specs.Line.{most_header, most_line}

-- No pair has more levels: k is 0 to n, and n at most 1,000.
abbrev pub most_levels : ℕ
most_levels = max_levels + 1

-- No text is longer: 37,119 bytes.
abbrev pub most_text : ℕ
most_text = most_header + most_line * most_levels

-- There is room for the text after the one that is put so far.
abbrev pub Room : List ℕ → List ℕ → Type 0
Room text before = length before + length text ≤ most_text
