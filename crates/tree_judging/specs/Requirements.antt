-- What the functions of this crate ask of one another.
use Rattle.std.specs.Prelude.{ℕ, ◌≡◌, List}
use Rattle.tree_file.specs.Format.{node_count}
use Rattle.tree_file.specs.Tallies.{events_before, inputs_before}
use Rattle.tree_file.specs.WellFormed.{WellFormedHeader}

-- The file has that many nodes, and its header is well-formed.
pub record Sized (file : List ℕ) (nodes : ℕ) : Type 0 where
  pub nodes_value : nodes ≡ node_count file
  pub header : WellFormedHeader file

-- The basic events and the inputs of gates before record i.
pub record Tallied (file : List ℕ) (i events inputs : ℕ) : Type 0 where
  pub events_value : events ≡ events_before file i
  pub inputs_value : inputs ≡ inputs_before file i
