-- What the evaluation of a pair leaves, the report that is read from it, and demands 2 and 3 of both.
use Prim.Native.Nat.{ℕ, suc, ◌-◌, ◌<◌}
use mathlib.Core.Path.{◌≡◌, refl, ap, ◌∙◌}
use mathlib.Core.List.{List}
use native.Mathlib.Omega.{arith}
use Rattle.theory.specs.Rounding.{Direction}
use Rattle.tree_file.specs.Format.{node_count}
use Rattle.tree_file.specs.Tallies.{event_count}
use Rattle.tree_judging.specs.Judged.{counts_of}
use Rattle.tree_judging.specs.declared.judgement.Counts.{Counts}
use Rattle.rounding.specs.Ends.{enclosure}
use Rattle.rounding.specs.declared.end.Enclosure.{Enclosure}
use Rattle.rounding.proofs.Marks.{end_in_enclosure, same_ends}
use Rattle.opinion_sheet.specs.Format.{unit}
use Rattle.event_cut.specs.Level.{IsLevel}
use Rattle.work_slices.specs.Slices.{Slices, Long, stored_end}
use Rattle.evaluation.specs.Report.{node_end, node_enclosure, slices_after}
use Rattle.evaluation.specs.Requirements.{Evaluable, Pair}
use Rattle.work_slices.proofs.Places.{same_long, stored_at}
use Rattle.evaluation.proofs.Reporting.{left_long, pair_at}
use Rattle.work_slices.proofs.Turns.{filled_at}
use Rattle.evaluation.proofs.NodePromises.{node_bottom_up, node_interval_ends, node_kept, node_encloses}
use Rattle.tree_file.specs.NodeTable.{root}
use Rattle.monitor.specs.Question.{report_of}
use Rattle.monitor.specs.Promise.{Kept}

module _ (tree sheet : List ℕ) (k n : ℕ) (before : Slices) (asked : Evaluable tree sheet before) (level : IsLevel k n)
  where
    -- the slices after
    abbrev after : Slices
    after = slices_after (unit sheet) tree sheet k n before

    pair : Pair tree sheet k n
    pair = pair_at asked level

    -- the root is a node
    pub root_inside : root tree < node_count tree
    root_inside = omega (arith, asked.tree_well_formed.header.nodes_least)

    -- a node's place holds its ends
    pub stored : (w : Direction) (i : ℕ) → i < node_count tree
        → stored_end w after i ≡ node_end (unit sheet) w tree sheet k n i
    stored w i l =
        stored_at (λ w. node_end (unit sheet) w tree sheet k n i)
        (filled_at (node_enclosure (unit sheet) tree sheet k n) before (node_count tree) i l asked.long) w

    -- the root has a place
    pub root_placed : (s : Slices) → s ≡ after → (counts : Counts) → counts ≡ counts_of tree
        → Long (suc (counts.nodes - 1)) s
    root_placed s es counts ce =
        let least = asked.tree_well_formed.header.nodes_least in
        let nodes : counts.nodes ≡ node_count tree = ap (λ (c : Counts). c.nodes) ce in
        same_long {n = node_count tree} {t = s} (λ p. refl) (omega arith) (left_long asked level es)

    -- what the root's place holds is the report
    pub report_read : (s : Slices) → s ≡ after → (nodes : ℕ) → nodes ≡ node_count tree → (events : ℕ)
        → events ≡ event_count tree → (ends : Enclosure) → ends ≡ enclosure (λ w. stored_end w s (nodes - 1))
        → record { ends = ends; events = events } ≡ report_of (unit sheet) tree sheet k n
    unfolding report_of
    report_read s es nodes en events ee ends e =
        let at_root : (w : Direction)
        → stored_end w s (nodes - 1) ≡ node_end (unit sheet) w tree sheet k n (root tree) =
        λ w. rw (es, en) (stored w (root tree) root_inside) in
        λ i. record { ends = (e ∙ same_ends _ _ at_root) i; events = ee i }

    -- so it is by what an accepted tree holds
    pub report_counted : (s : Slices) → s ≡ after → (counts : Counts) → counts ≡ counts_of tree → (ends : Enclosure)
        → ends ≡ enclosure (λ w. stored_end w s (counts.nodes - 1))
        → record { ends = ends; events = counts.events } ≡ report_of (unit sheet) tree sheet k n
    report_counted s es counts ce ends e =
        report_read s es counts.nodes (λ i. (ce i).nodes) counts.events (λ i. (ce i).events) ends e

    -- demands 2 and 3 of the report and of the slices
    pub answer_kept : Kept (unit sheet) (report_of (unit sheet) tree sheet k n) tree sheet k n after
    unfolding report_of
    answer_kept = record {
      interval_ends = λ w i l. node_interval_ends tree sheet k n pair w i l;
      bottom_up_agrees = λ p h i l. node_bottom_up tree sheet k n pair p h i l;
      node_ends = λ w i l. rw (stored w i l) (node_kept tree sheet k n pair w i l);
      root_ends = λ w.
          rw (end_in_enclosure w (λ w. node_end (unit sheet) w tree sheet k n (root tree)))
          (node_kept tree sheet k n pair w (root tree) root_inside);
      contained = λ p inside. node_encloses tree sheet k n pair (root tree) root_inside p inside;
    }
