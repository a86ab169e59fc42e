-- When the levels can be put, for the contracts of functions inside this crate alone.
use Rattle.std.specs.Prelude.{ℕ, ◌≡◌, List, Ok}
use Rattle.tree_judging.specs.Judged.{counts_of}
use Rattle.held_pair.specs.Standing.{held_tree, standing_of}
use Rattle.held_files.specs.declared.state.State.{State}

-- The pair that is held is ready for level n of n.
abbrev pub ReadyAt : State → List ℕ → List ℕ → ℕ → Type 0
ReadyAt state tree_store sheet_store n =
    standing_of state tree_store sheet_store n n ≡ Ok (counts_of (held_tree state tree_store))
