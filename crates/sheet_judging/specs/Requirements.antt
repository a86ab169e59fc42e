-- What the functions of this crate ask of one another.
use Rattle.std.specs.Prelude.{ℕ, ◌+◌, ◌≤◌, List, length}
use Rattle.opinion_sheet.specs.Format.{header_length, entry_length}

-- An entry at a place lies inside a file that has a header.
pub record EntryInside (file : List ℕ) (at : ℕ) : Type 0 where
  pub header_inside : header_length ≤ length file
  pub entry_inside : at + entry_length file ≤ length file
