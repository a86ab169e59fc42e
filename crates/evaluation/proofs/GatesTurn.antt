-- One turn of the second phase: what the node at its turn asks, and the slices after it.
use Prim.Native.Nat.{ℕ, ◌+◌, ◌<◌}
use mathlib.Core.Path.{◌≡◌, ◌∙◌}
use mathlib.Core.List.{List}
use native.Mathlib.Nat.{le_refl, le_of_lt}
use Rattle.tree_file.specs.Format.{node_count}
use Rattle.tree_file.specs.NodeTable.{read_node}
use Rattle.work_slices.specs.Slices.{Slices}
use Rattle.evaluation.specs.Phases.{gate_put, gate_turn, in_order}
use Rattle.evaluation.specs.Requirements.{EventsStored, GateAsked}
use Rattle.work_slices.proofs.Places.{same_long}
use Rattle.work_slices.proofs.Turns.{Reached, reached_next, turns_length}
use Rattle.evaluation.proofs.GatesDone.{gates_local, inputs_done, linked_inside, order_inside}
use Rattle.evaluation.proofs.Evaluated.{in_units_done}

module _ (U : ℕ) (positive : 0 < U) (tree : List ℕ) (s₀ : Slices) {s : Slices} {p : ℕ}
    (r : Reached (gate_turn U tree) s₀ (node_count tree) s p) (l : p < node_count tree) {i : ℕ}
    (e : i ≡ in_order tree p) where
  -- what the node at its turn asks
  pub gate_asked : EventsStored U tree s₀ → GateAsked U tree i s
  gate_asked asked = rw (e, r.same) (record {
    well_formed = asked.well_formed;
    inside = order_inside tree p l;
    long = same_long (turns_length (gates_local U tree) p s₀) (le_refl (node_count tree)) asked.long;
    in_units = λ w g q j m.
        in_units_done U positive tree s₀ asked p (le_of_lt l) _ (linked_inside tree asked.well_formed p l g q j m)
        (inputs_done tree asked.well_formed p l g q j m) w;
  })

  -- one place more
  pub gates_next : {after : Slices} → after ≡ gate_put U tree i (read_node tree i) s
      → Reached (gate_turn U tree) s₀ (node_count tree) after (p + 1)
  gates_next made = reached_next r l (made ∙ rw e)
