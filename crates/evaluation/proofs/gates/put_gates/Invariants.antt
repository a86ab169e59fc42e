-- The phase over the places passed.
use Rattle.theory.specs.Unit.{billion}
use Rattle.tree_file.specs.Format.{node_count}
use Rattle.work_slices.specs.Slices.{contents, SameSlices}
use Rattle.evaluation.specs.Phases.{gate_turn}
use Rattle.work_slices.proofs.Turns.{Reached}
use Rattle.evaluation.proofs.gates.put_gates.Given as goal

abbrev pub invariant-loop-place : goal.invariant-loop-place
invariant-loop-place l = record {
  same_slices : SameSlices l.slices l.initial.slices;
  reached : Reached (gate_turn billion l.tree) (contents l.initial.slices) (node_count l.tree)
      (contents l.slices) l.place;
}
