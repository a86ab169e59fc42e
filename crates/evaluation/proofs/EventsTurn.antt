-- One turn of the first phase: what a node's turn asks, and what the cut of its event does.
use Prim.Native.Nat.{ℕ, suc, ◌<◌}
use mathlib.Core.Path.{◌≡◌, sym}
use mathlib.Core.List.{List}
use Rattle.tree_file.specs.Format.{node_count}
use Rattle.tree_file.specs.NodeTable.{read_node}
use Rattle.tree_file.specs.declared.node.Node.TheVariants as node
use Rattle.tree_file.proofs.Nodes.{event_inside}
use Rattle.opinion_sheet.specs.Format.{event_count as entry_count}
use Rattle.opinion_sheet.specs.WellFormed.{WellFormed as WellFormedSheet}
use Rattle.sheet_judging.specs.Judged.{counts_of, judged}
use Rattle.sheet_judging.proofs.Accepted.{accepted_well_formed}
use Rattle.std.specs.Prelude.{Ok}
use Rattle.tree_file.specs.Tallies.{event_count}
use Rattle.tree_file.specs.WellFormed.{WellFormed}
use Rattle.rounding.specs.declared.end.Enclosure.{Enclosure}
use Rattle.work_slices.specs.Slices.{Slices, Long}
use Rattle.evaluation.specs.Phases.{event_turn}
use Rattle.work_slices.proofs.Places.{same_long}
use Rattle.work_slices.proofs.Turns.{Reached, reached_length}
use Rattle.evaluation.proofs.Evaluated.{events_local}

-- at a node's turn the slices have its place
pub event_long : (cuts : ℕ → Enclosure) (tree : List ℕ) {s₀ : Slices} {n m : ℕ} → Long n s₀ → {s : Slices} {i : ℕ}
    → Reached (event_turn cuts tree) s₀ m s i → i < n → Long (suc i) s
event_long cuts tree long r l = same_long (reached_length (events_local cuts tree) r) l long

-- what the cut of a basic event asks
pub cut_asked : {tree sheet : List ℕ} {i : ℕ} → WellFormed tree → judged sheet ≡ Ok (counts_of sheet)
    → entry_count sheet ≡ event_count tree → i < node_count tree
    → {event : ℕ} → node.Event event ≡ read_node tree i → WellFormedSheet sheet × (event < entry_count sheet)
cut_asked {tree} {sheet} {i} formed accepted same l {event} e = (
  accepted_well_formed sheet (counts_of sheet) accepted,
  rw same (event_inside tree formed i l event (sym e)),
)
