-- De Morgan's law of a pair and its dual, of every node at every level; turned over twice, every end is as it was.
use Prim.Native.Nat.{ℕ, ◌-◌, ◌≤◌, ◌<◌}
use native.Mathlib.Omega.{arith}
use mathlib.Core.Path.{◌≡◌, refl, sym, ap, ◌∙◌}
use mathlib.Core.List.{List}
use lib.Dec.{lit<}
use Rattle.theory.specs.Trapezoid.{cut}
use Rattle.theory.specs.Rounding.{Direction, down, up, opposite, End, end_complement}
use Rattle.theory.specs.NodeTable.{event_count as table_event_count}
use Rattle.theory.proofs.Rounded.{complement_twice}
use Rattle.theory.proofs.DeMorgan.{TurnedCut, cut_turned}
use Rattle.theory.proofs.DualTable.{node_dual_reported}
use Rattle.tree_file.specs.Format.{node_count}
use Rattle.tree_file.specs.NodeTable.{table_of, rank}
use Rattle.tree_file.proofs.NodeTable.{table_ranked, table_numbered, table_linked_once, table_events}
use Rattle.opinion_sheet.specs.Format.{event_count as entry_count, unit}
use Rattle.event_cut.specs.EventCut.{event_cut}
use Rattle.event_cut.proofs.EventRising.{event_rising}
use Rattle.sheet_judging.proofs.HeaderKept.{same_events}
use Rattle.evaluation.specs.Report.{node_end}
use Rattle.evaluation.specs.Requirements.{Pair}
use Rattle.evaluation.proofs.NodePromises.{cuts_ordered, node_in_units}
use Rattle.dual_files.specs.Tree.{dual_tree, DualTree}
use Rattle.dual_files.specs.Sheet.{complement_sheet}
use Rattle.success_tree.specs.Law.{TurnedOver}
use Rattle.dual_files.proofs.TreeWritten.{tree_means}
use Rattle.dual_files.proofs.TreeAccepted.{nodes_kept, tree_well_formed, tree_counts_kept, tree_dual}
use Rattle.dual_files.proofs.SheetWritten.{numbers_turned, header_bytes}
use Rattle.dual_files.proofs.SheetAccepted.{sheet_well_formed}

opposite_twice : (w : Direction) → opposite (opposite w) ≡ w
opposite_twice down = refl
opposite_twice up = refl

-- Ends that are what is missing to U of the others' opposite ends.
pub turned_over : (U : ℕ) (held dual : Direction → End)
    → ((w : Direction) → dual w ≡ end_complement U (held (opposite w))) → ((w : Direction) → (held w).value ≤ U)
    → TurnedOver U held dual
unfolding end_complement
turned_over U held dual e within = record {
  lower = sym (rw (e up) (back (within down)));
  upper = sym (rw (e down) (back (within up)));
  lower_mark = sym (ap (λ x. x.exact) (e up));
  upper_mark = sym (ap (λ x. x.exact) (e down));
}
  where
    back : {x : ℕ} → x ≤ U → U - (U - x) ≡ x
    back l = omega arith

module _ (tree sheet : List ℕ) (k n : ℕ) (pair : Pair tree sheet k n) where
  abbrev means : DualTree tree (dual_tree tree)
  means = tree_means tree pair.tree_well_formed.header

  -- the dual files are a pair too
  pub dual_pair : Pair (dual_tree tree) (complement_sheet sheet) k n
  dual_pair = record {
    tree_well_formed = tree_well_formed tree (dual_tree tree) means pair.tree_well_formed;
    sheet_well_formed = sheet_well_formed sheet pair.sheet_well_formed;
    same_events =
        same_events sheet (complement_sheet sheet) (header_bytes sheet pair.sheet_well_formed.header)
        ∙ pair.same_events
        ∙ sym (ap (λ c. c.events) (tree_counts_kept tree (dual_tree tree) means pair.tree_well_formed));
    level = pair.level;
  }

  -- an event's cut is turned over
  cut_is_turned : (e : ℕ) → e < table_event_count (table_of tree)
      → TurnedCut (event_cut (unit sheet) sheet k n) (event_cut (unit sheet) (complement_sheet sheet) k n) e
  cut_is_turned e l =
      let inside : e < entry_count sheet = rw (pair.same_events, ← table_events tree pair.tree_well_formed) l in
      record {
        ordered = cuts_ordered tree sheet k n pair e l;
        is_complement =
            ap (λ z. cut z k n) (numbers_turned sheet pair.sheet_well_formed e inside)
            ∙ cut_turned _ k n (event_rising sheet pair.sheet_well_formed e inside) pair.level.k_n;
      }

  -- an end of the dual pair is what is missing to U of the other end of the pair
  pub end_turned : (w : Direction) (i : ℕ) → i < node_count tree
      → node_end (unit sheet) w (dual_tree tree) (complement_sheet sheet) k n i
      ≡ end_complement (unit sheet) (node_end (unit sheet) (opposite w) tree sheet k n i)
  unfolding node_end
  end_turned w i l =
      node_dual_reported (table_of tree) (rank tree) (table_ranked tree pair.tree_well_formed)
      (table_of (dual_tree tree)) (tree_dual tree (dual_tree tree) means pair.tree_well_formed)
      (table_numbered tree pair.tree_well_formed) (table_linked_once tree pair.tree_well_formed) (unit sheet)
      (lit< tt) w _ _ cut_is_turned i l

  -- so both ends of a node are turned over
  pub node_turned : (i : ℕ) → i < node_count tree
      → TurnedOver (unit sheet) (λ w. node_end (unit sheet) w tree sheet k n i)
      (λ w. node_end (unit sheet) w (dual_tree tree) (complement_sheet sheet) k n i)
  node_turned i l =
      turned_over (unit sheet) _ _ (λ w. end_turned w i l) (λ w. node_in_units tree sheet k n pair w i l)

-- Mirrored twice, a node has its ends back.
module _ (tree sheet : List ℕ) (k n : ℕ) (pair : Pair tree sheet k n) where
  pub end_restored : (w : Direction) (i : ℕ) → i < node_count tree
      → node_end (unit sheet) w (dual_tree (dual_tree tree)) (complement_sheet (complement_sheet sheet)) k n i
      ≡ node_end (unit sheet) w tree sheet k n i
  end_restored w i l =
      let again = dual_pair tree sheet k n pair in
      let means = tree_means tree pair.tree_well_formed.header in
      let inside : i < node_count (dual_tree tree) = rw (nodes_kept tree (dual_tree tree) means) l in
      end_turned (dual_tree tree) (complement_sheet sheet) k n again w i inside
      ∙ ap (end_complement (unit sheet)) (end_turned tree sheet k n pair (opposite w) i l)
      ∙ complement_twice (unit sheet) _ (node_in_units tree sheet k n pair (opposite (opposite w)) i l)
      ∙ ap (λ v. node_end (unit sheet) v tree sheet k n i) (opposite_twice w)
