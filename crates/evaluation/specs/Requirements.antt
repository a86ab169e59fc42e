-- What `evaluate` and the functions inside this crate ask of their callers.
use Rattle.std.specs.Prelude.{ℕ, suc, ◌≤◌, ◌<◌, ◌≡◌, List, get_or}
use Rattle.theory.specs.Rounding.{Direction}
use Rattle.tree_file.specs.Format.{link_count, linked, links_from, node_count}
use Rattle.tree_file.specs.Tallies.{event_count}
use Rattle.tree_file.specs.WellFormed.{WellFormed}
use Rattle.tree_file.specs.NodeTable.{read_node}
use Rattle.tree_file.specs.Requirements.{HasLink}
use Rattle.tree_file.specs.declared.node.Gate.{Gate}
use Rattle.tree_file.specs.declared.node.Node.TheVariants as node
use Rattle.opinion_sheet.specs.Format.{event_count as entry_count}
use Rattle.opinion_sheet.specs.WellFormed.{WellFormed as WellFormedSheet}
use Rattle.event_cut.specs.Level.{IsLevel}
use Rattle.work_slices.specs.Slices.{Slices, Long, ends, slice}

-- A well-formed tree file and a well-formed sheet with as many events, and a level.
pub record Pair (tree sheet : List ℕ) (k n : ℕ) : Type 0 where
  pub tree_well_formed : WellFormed tree
  pub sheet_well_formed : WellFormedSheet sheet
  pub same_events : entry_count sheet ≡ event_count tree
  pub level : IsLevel k n

-- What `evaluate` asks at any level: such files, and a place for every node in the work slices.
pub record Evaluable (tree sheet : List ℕ) (s : Slices) : Type 0 where
  pub tree_well_formed : WellFormed tree
  pub sheet_well_formed : WellFormedSheet sheet
  pub same_events : entry_count sheet ≡ event_count tree
  pub long : Long (node_count tree) s

-- Link j lies inside the part of the links, and names a node with a place and ends of at most U. The place is inside
-- the slices, so the default 0 is never read.
pub record InputStored (U : ℕ) (links : List ℕ) (j : ℕ) (s : Slices) : Type 0 where
  pub has_link : HasLink links j
  pub has_place : Long (suc (linked links j)) s
  pub in_units : (w : Direction) → get_or (slice (ends w) s) (linked links j) 0 ≤ U

-- A gate has an input, and all its inputs are stored.
pub record InputsStored (U : ℕ) (links : List ℕ) (inputs : ℕ) (s : Slices) : Type 0 where
  pub some_input : 0 < inputs
  pub input_stored : (j : ℕ) → j < inputs → InputStored U links j s

-- A gate's links lie inside a well-formed tree, and its inputs' ends are stored, lower and upper.
pub record GateStored (U : ℕ) (tree : List ℕ) (g : Gate) (s : Slices) : Type 0 where
  pub well_formed : WellFormed tree
  pub first_inside : g.first ≤ link_count tree
  pub inputs_stored : InputsStored U (links_from tree g.first) g.inputs s

-- Node i of a well-formed tree, and, where it is a gate, its inputs' stored ends. Inputs are nodes of the tree, which
-- have their places (`long`), so the default 0 is never read.
pub record GateAsked (U : ℕ) (tree : List ℕ) (i : ℕ) (s : Slices) : Type 0 where
  pub well_formed : WellFormed tree
  pub inside : i < node_count tree
  pub long : Long (node_count tree) s
  pub in_units : (w : Direction) (g : Gate) → read_node tree i ≡ node.Gate g → (j : ℕ) → j < g.inputs
      → get_or (slice (ends w) s) (linked (links_from tree g.first) j) 0 ≤ U

-- A well-formed tree, and the ends of its events stored, each at its place (`long`), so the default 0 is never read.
pub record EventsStored (U : ℕ) (tree : List ℕ) (s : Slices) : Type 0 where
  pub well_formed : WellFormed tree
  pub long : Long (node_count tree) s
  pub in_units : (w : Direction) (i e : ℕ) → i < node_count tree → read_node tree i ≡ node.Event e
      → get_or (slice (ends w) s) i 0 ≤ U
