-- What is reported of a level: each node's ends and marks, and the work slices after.
use Rattle.std.specs.Prelude.{ℕ, List}
use Rattle.theory.specs.Rounding.{Direction, End, reported}
use Rattle.tree_file.specs.Format.{node_count}
use Rattle.tree_file.specs.NodeTable.{fault_tree}
use Rattle.event_cut.specs.EventCut.{event_cut}
use Rattle.rounding.specs.Ends.{enclosure}
use Rattle.rounding.specs.declared.end.Enclosure.{Enclosure}
use Rattle.work_slices.specs.Slices.{Slices, filled}

-- The lower (down) or upper (up) end reported of node i at level k of n, in units of which U make 1.
unfoldable pub node_end : ℕ → Direction → List ℕ → List ℕ → ℕ → ℕ → ℕ → End
node_end U w tree sheet k n i = reported U w (event_cut U sheet k n) (fault_tree tree i)

-- Both ends of node i with their marks.
abbrev pub node_enclosure : ℕ → List ℕ → List ℕ → ℕ → ℕ → ℕ → Enclosure
node_enclosure U tree sheet k n i = enclosure (λ w. node_end U w tree sheet k n i)

-- The work slices after: place i for node i, places from N on unchanged.
abbrev pub slices_after : ℕ → List ℕ → List ℕ → ℕ → ℕ → Slices → Slices
slices_after U tree sheet k n before = filled (node_enclosure U tree sheet k n) (node_count tree) before
