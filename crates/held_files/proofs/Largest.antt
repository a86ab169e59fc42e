-- The code reckons the largest lengths from the formats: they are those that the input of a program is held to.
use Rattle.std.specs.Prelude.{◌≡◌, refl}
use Rattle.held_files.specs.Largest.{most_tree, most_sheet}
use Rattle.held_files.specs.declared.held.TheConstants.{MOST_TREE, MOST_SHEET}

pub largest_tree : MOST_TREE ≡ most_tree
largest_tree = refl

pub largest_sheet : MOST_SHEET ≡ most_sheet
largest_sheet = refl
