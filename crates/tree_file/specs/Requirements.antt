-- What functions ask of their arguments: `HasLink` of whoever reads links, `HasRecord` of whoever reads a record.
use Rattle.std.specs.Prelude.{ℕ, ◌+◌, ◌*◌, ◌≤◌, List, length}
use Rattle.tree_file.specs.Format.{link_length, record_at, record_length}

-- The record of node i lies within the file.
abbrev pub HasRecord : List ℕ → ℕ → Type 0
HasRecord file i = record_at file i + record_length ≤ length file

-- Link j lies within a part of a file that starts at a link.
abbrev pub HasLink : List ℕ → ℕ → Type 0
HasLink links j = link_length * j + link_length ≤ length links
