-- The two phases of a pair: what the second asks of the first, and that together they report.
use Prim.Native.Nat.{ℕ}
use mathlib.Core.Path.{◌≡◌, ◌∙◌}
use mathlib.Core.List.{List}
use native.Mathlib.Nat.{le_refl}
use Rattle.theory.specs.Unit.{billion}
use Rattle.theory.specs.Rounding.{Direction, End, cut_end, end_of}
use Rattle.tree_file.specs.Format.{node_count}
use Rattle.event_cut.specs.Level.{IsLevel}
use Rattle.event_cut.specs.EventCut.{event_cut, cut_at}
use Rattle.rounding.specs.declared.end.Enclosure.{Enclosure}
use Rattle.work_slices.specs.Slices.{Slices, ends, Long, after_turns}
use Rattle.evaluation.specs.Report.{node_end, node_enclosure, slices_after}
use Rattle.evaluation.specs.Phases.{event_turn, gate_turn}
use Rattle.evaluation.specs.Requirements.{Pair, Evaluable, EventsStored}
use Rattle.work_slices.proofs.Places.{content_value, same_long}
use Rattle.work_slices.proofs.Turns.{turns_length, filled_local}
use Rattle.evaluation.proofs.NodeEnds.{event_end}
use Rattle.evaluation.proofs.Evaluated.{events_at, events_local, phases_report}
use Rattle.evaluation.proofs.NodePromises.{node_in_units}

module _ {tree sheet : List ℕ} {k n : ℕ} {s₀ : Slices} (asked : Evaluable tree sheet s₀) (level : IsLevel k n) where
  -- the pair at the level
  pub pair_at : Pair tree sheet k n
  pair_at = record {
    tree_well_formed = asked.tree_well_formed;
    sheet_well_formed = asked.sheet_well_formed;
    same_events = asked.same_events;
    level = level;
  }

  -- the cut of an event
  abbrev cuts : ℕ → Enclosure
  cuts e = cut_at billion sheet e k n

  -- an event's end in a direction
  abbrev leaf : Direction → ℕ → End
  leaf w e = cut_end billion w (end_of w (event_cut billion sheet k n e))

  module _ {s : Slices} (cut : s ≡ after_turns (event_turn cuts tree) (node_count tree) s₀) where
    -- the second phase finds the events' ends, at most U
    pub events_stored : EventsStored billion tree s
    unfolding node_end
    events_stored = record {
      well_formed = asked.tree_well_formed;
      long = rw cut
          (same_long (turns_length (events_local cuts tree) (node_count tree) s₀) (le_refl (node_count tree))
          asked.long);
      in_units = λ w i e l r.
          rw (
            cut,
            events_at cuts tree (node_count tree) s₀ asked.long i e l r (ends w),
            content_value w (λ w. leaf w e),
            ← event_end tree asked.tree_well_formed billion w (leaf w) i l e r,
          )
          (node_in_units tree sheet k n pair_at w i l);
    }

    -- the two phases report every node
    pub reported : {after : Slices} → after ≡ after_turns (gate_turn billion tree) (node_count tree) s
        → after ≡ slices_after billion tree sheet k n s₀
    unfolding node_end
    reported made = made ∙ rw cut (phases_report billion tree asked.tree_well_formed leaf s₀ asked.long)

  -- the slices are long enough after it too
  pub left_long : {after : Slices} → after ≡ slices_after billion tree sheet k n s₀ → Long (node_count tree) after
  left_long e =
      rw e
      (same_long (turns_length (filled_local (node_enclosure billion tree sheet k n)) (node_count tree) s₀)
      (le_refl (node_count tree)) asked.long)
