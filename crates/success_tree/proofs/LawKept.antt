-- What the call promises of a pair that is ready: the dual pair in the buffers is ready too, and De Morgan's law
-- holds of the two, of what is reported and of what questions leave in work slices.
use Prim.Native.Nat.{ℕ, ◌-◌, ◌≤◌, ◌<◌}
use mathlib.Core.Path.{◌≡◌, refl, sym, ap, ◌∙◌}
use mathlib.Core.List.{List, ◌++◌}
use native.Mathlib.Omega.{arith}
use lib.ListN.{length, length-append}
use lib.Seq.{length-take-le}
use borrow.Author.Tests.{le-leb}
use Rattle.theory.specs.Rounding.{Direction, down, up, End}
use Rattle.refusals.specs.FirstFault.{unless, first_of, judged_by}
use Rattle.refusals.specs.declared.rule.Rule.TheVariants.{OtherTree}
use Rattle.std.specs.Prelude.{Ok}
use Rattle.refusals.proofs.FirstFault.{AllAbsent, accepted_absent, absent_first_of, first_of_absent}
use Rattle.tree_file.specs.Format.{node_count}
use Rattle.tree_judging.specs.Judged.{fault_of as tree_fault, counts_of as tree_counts}
use Rattle.tree_judging.specs.declared.judgement.Counts.{Counts}
use Rattle.opinion_sheet.specs.Format.{unit}
use Rattle.sheet_judging.specs.Judged.{fault_of as sheet_fault, counts_of as sheet_counts}
use Rattle.event_cut.specs.Level.{IsLevel}
use Rattle.sheet_judging.proofs.HeaderKept.{same_counts}
use Rattle.work_slices.specs.Slices.{Slices, Long, stored_end}
use Rattle.evaluation.specs.Report.{node_end}
use Rattle.evaluation.specs.Requirements.{Pair}
use Rattle.held_pair.specs.Standing.{changed, held_tree, held_sheet, tree_changed, sheet_changed, other_tree, fitting}
use Rattle.held_pair.specs.Standing.{pair_rules, pair_standing, standing_of}
use Rattle.monitor.specs.Question.{slices_left}
use Rattle.held_files.specs.declared.state.State.{State}
use Rattle.held_pair.proofs.Standing.{level_in_range}
use Rattle.held_pair.proofs.Ready.{ReadyPair, level_ranged, ready_pair}
use Rattle.monitor.proofs.Stored.{left_stored}
use Rattle.dual_files.specs.Tree.{dual_tree, DualTree}
use Rattle.dual_files.specs.Sheet.{complement_sheet}
use Rattle.success_tree.specs.Law.{TurnedOver, Law}
use Rattle.dual_files.proofs.TreeWritten.{tree_long, tree_means, tree_front, tree_restored}
use Rattle.dual_files.proofs.TreeAccepted.{tree_counts_kept, tree_unfaulted}
use Rattle.dual_files.proofs.SheetWritten.{header_bytes, sheet_long, sheet_front}
use Rattle.dual_files.proofs.SheetAccepted.{sheet_unfaulted}
use Rattle.success_tree.proofs.PairTurned.{node_turned, end_restored}

-- Ends that are the same ones are turned over alike.
same_turned : (U : ℕ) {held dual other another : Direction → End} → ((w : Direction) → other w ≡ held w)
    → ((w : Direction) → another w ≡ dual w) → TurnedOver U held dual → TurnedOver U other another
same_turned U a b t = record {
  lower = ap (λ x. x.value) (a down) ∙ t.lower ∙ sym (ap (λ x. U - x.value) (b up));
  upper = ap (λ x. x.value) (a up) ∙ t.upper ∙ sym (ap (λ x. U - x.value) (b down));
  lower_mark = ap (λ x. x.exact) (a down) ∙ t.lower_mark ∙ sym (ap (λ x. x.exact) (b up));
  upper_mark = ap (λ x. x.exact) (a up) ∙ t.upper_mark ∙ sym (ap (λ x. x.exact) (b down));
}

-- A pair that is ready.
module _ (state : State) (tree_store sheet_store : List ℕ) (counts : Counts)
    (ready : pair_standing state tree_store sheet_store ≡ Ok counts) where
  abbrev tree : List ℕ
  tree = held_tree state tree_store

  abbrev sheet : List ℕ
  sheet = held_sheet state sheet_store

  -- at every level
  ready_level : (k n : ℕ) → IsLevel k n → standing_of state tree_store sheet_store k n ≡ Ok counts
  ready_level k n l = level_in_range state tree_store sheet_store k n (level_ranged k n l) ∙ ready

  pub pair_at : (k n : ℕ) → IsLevel k n → Pair tree sheet k n
  pair_at k n l = (ready_pair state tree_store sheet_store k n counts (ready_level k n l)).pair

  -- there is a level
  some_level : IsLevel 0 1
  some_level = record { n_positive = omega arith; n_bounded = omega arith; k_n = omega arith }

  pub held : ReadyPair state tree_store sheet_store 0 1 counts
  held = ready_pair state tree_store sheet_store 0 1 counts (ready_level 0 1 some_level)

  pub tree_length : length tree ≡ state.tree_len
  tree_length = length-take-le state.tree_len tree_store held.tree_inside

  pub sheet_length : length sheet ≡ state.sheet_len
  sheet_length = length-take-le state.sheet_len sheet_store held.sheet_inside

  unbroken : AllAbsent (pair_rules state tree_store sheet_store)
  unfolding pair_standing
  unbroken = first_of_absent (pair_rules state tree_store sheet_store) (accepted_absent _ _ counts ready).0

  -- Two buffers that begin with the dual files.
  module _ (tree_buffer sheet_buffer rest more : List ℕ) (tree_is : tree_buffer ≡ dual_tree tree ++ rest)
      (sheet_is : sheet_buffer ≡ complement_sheet sheet ++ more) where
    abbrev means : DualTree tree (dual_tree tree)
    means = tree_means tree held.pair.tree_well_formed.header

    -- the files at their fronts
    front_tree : held_tree state tree_buffer ≡ dual_tree tree
    front_tree = rw tree_is (tree_front tree held.pair.tree_well_formed.header _ tree_length rest)

    front_sheet : held_sheet state sheet_buffer ≡ complement_sheet sheet
    front_sheet = rw sheet_is (sheet_front sheet held.pair.sheet_well_formed.header _ sheet_length more)

    -- neither has changed, for monitor, and they fit
    tree_kept : tree_changed state tree_buffer ≡ Ok tt
    unfolding changed
    tree_kept =
        let inside : state.tree_len ≤ length tree_buffer =
        rw tree_is
        (omega (
          arith,
          length-append (dual_tree tree) rest,
          tree_long tree held.pair.tree_well_formed.header,
          tree_length,
        )) in
        rw (le-leb _ _ inside, ap tree_fault front_tree ∙ tree_unfaulted tree (dual_tree tree) means held.pair.tree_well_formed)

    sheet_kept : sheet_changed state sheet_buffer ≡ Ok tt
    unfolding changed
    sheet_kept =
        let inside : state.sheet_len ≤ length sheet_buffer =
        rw sheet_is
        (omega (
          arith,
          length-append (complement_sheet sheet) more,
          sheet_long sheet held.pair.sheet_well_formed.header,
          sheet_length,
        )) in
        rw (le-leb _ _ inside, ap sheet_fault front_sheet ∙ sheet_unfaulted sheet held.pair.sheet_well_formed)

    counts_kept : tree_counts (held_tree state tree_buffer) ≡ tree_counts tree
    counts_kept =
        ap tree_counts front_tree ∙ tree_counts_kept tree (dual_tree tree) means held.pair.tree_well_formed

    fits : other_tree (held_tree state tree_buffer) (held_sheet state sheet_buffer) ≡ other_tree tree sheet
    fits =
        let sheet_counts_kept : sheet_counts (held_sheet state sheet_buffer) ≡ sheet_counts sheet =
        ap sheet_counts front_sheet
        ∙ same_counts sheet (complement_sheet sheet) (header_bytes sheet held.pair.sheet_well_formed.header) in
        λ i. unless (fitting (counts_kept i) (sheet_counts_kept i)) OtherTree 0

    buffers_unbroken : first_of (pair_rules state tree_buffer sheet_buffer) ≡ Ok tt
    buffers_unbroken =
        absent_first_of (pair_rules state tree_buffer sheet_buffer) (
          unbroken.0,
          (unbroken.1.0, (tree_kept, (sheet_kept, (fits ∙ unbroken.1.1.1.1.0, tt)))),
        )

    -- the dual pair is ready, with the counts of the held one
    buffers_ready : pair_standing state tree_buffer sheet_buffer ≡ Ok counts
    unfolding pair_standing
    buffers_ready =
        (λ i. judged_by (buffers_unbroken i) (counts_kept i)) ∙ ap Ok (sym held.counts_is)

    abbrev U : ℕ
    U = unit sheet

    -- a node of the dual pair
    nodes_are : node_count (held_tree state tree_buffer) ≡ node_count tree
    nodes_are = ap (λ (c : Counts). c.nodes) counts_kept

    -- the law of what is reported
    ends_turned : (k n : ℕ) → IsLevel k n → (i : ℕ) → i < node_count tree
        → TurnedOver U (λ w. node_end U w tree sheet k n i)
        (λ w. node_end U w (held_tree state tree_buffer) (held_sheet state sheet_buffer) k n i)
    ends_turned k n l i h =
        same_turned U (λ w. refl) (λ w j. node_end U w (front_tree j) (front_sheet j) k n i)
        (node_turned tree sheet k n (pair_at k n l) i h)

    -- and of what questions leave
    stored_turned : (k n : ℕ) → IsLevel k n → (s t : Slices) → Long (node_count tree) s → Long (node_count tree) t
        → (i : ℕ) → i < node_count tree
        → TurnedOver U (λ w. stored_end w (slices_left state tree_store sheet_store k n s) i)
        (λ w. stored_end w (slices_left state tree_buffer sheet_buffer k n t) i)
    stored_turned k n l s t s_long t_long i h =
        let again : standing_of state tree_buffer sheet_buffer k n ≡ Ok counts =
        level_in_range state tree_buffer sheet_buffer k n (level_ranged k n l) ∙ buffers_ready in
        same_turned U (λ w. left_stored state tree_store sheet_store k n counts (ready_level k n l) s s_long w i h)
        (λ w. left_stored state tree_buffer sheet_buffer k n counts again t (rw nodes_are t_long) w i (rw nodes_are h))
        (ends_turned k n l i h)

    pub law_kept : Law U state tree_store sheet_store tree_buffer sheet_buffer
    law_kept = record {
      accepted = buffers_ready ∙ sym ready;
      node_ends = ends_turned;
      stored_ends = stored_turned;
      tree_restored = ap dual_tree front_tree ∙ tree_restored tree held.pair.tree_well_formed.header;
      ends_restored = λ k n l w i h.
          (λ j. node_end U w (dual_tree (front_tree j)) (complement_sheet (front_sheet j)) k n i)
          ∙ end_restored tree sheet k n (pair_at k n l) w i h;
    }
