-- The phase over the nodes passed.
use Rattle.theory.specs.Unit.{billion}
use Rattle.tree_file.specs.Format.{node_count}
use Rattle.event_cut.specs.EventCut.{cut_at}
use Rattle.work_slices.specs.Slices.{contents, SameSlices}
use Rattle.evaluation.specs.Phases.{event_turn}
use Rattle.work_slices.proofs.Turns.{Reached}
use Rattle.evaluation.proofs.events.EventCuts.put_events.Given as goal

abbrev pub invariant-loop-i : goal.invariant-loop-i
invariant-loop-i l = record {
  same_slices : SameSlices l.slices l.initial.slices;
  reached : Reached (event_turn (λ e. cut_at billion l.self.sheet.now e l.self.level.k l.self.level.n) l.self.tree.now) (contents l.initial.slices)
      (node_count l.self.tree.now)
      (contents l.slices) l.i;
}
