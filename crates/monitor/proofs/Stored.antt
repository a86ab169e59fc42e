-- What a question of a pair that is ready leaves in slices with a place for every node: the ends reported of each.
use Prim.Native.Nat.{ℕ, ◌<◌}
use mathlib.Core.Path.{◌≡◌, ap, ◌∙◌}
use mathlib.Core.List.{List, [], ◌∷◌}
use lib.ListN.{length}
use borrow.Author.Tests.{le-leb}
use Rattle.theory.specs.Rounding.{Direction}
use Rattle.refusals.specs.FirstFault.{◌or_else◌, first_of, FirstFault}
use Rattle.std.specs.Prelude.{Ok}
use Rattle.refusals.proofs.FirstFault.{first_of_append}
use Rattle.tree_file.specs.Format.{node_count}
use Rattle.tree_judging.specs.declared.judgement.Counts.{Counts}
use Rattle.opinion_sheet.specs.Format.{unit}
use Rattle.work_slices.specs.Slices.{Slices, Long, stored_end}
use Rattle.evaluation.specs.Report.{node_end, slices_after}
use Rattle.held_pair.specs.Standing.{held_tree, held_sheet, level_rules, short_slice, standing_of}
use Rattle.monitor.specs.Question.{question_rules, slices_by, slices_left}
use Rattle.held_files.specs.declared.state.State.{State}
use Rattle.refusals.proofs.FirstFault.{accepted_absent}
use Rattle.held_pair.proofs.Ready.{ready_pair}
use Rattle.monitor.proofs.Answer.{stored}

module _ (state : State) (tree_store sheet_store : List ℕ) (k n : ℕ) (counts : Counts)
    (e : standing_of state tree_store sheet_store k n ≡ Ok counts) (s : Slices)
    (long : Long (node_count (held_tree state tree_store)) s) where
  abbrev tree : List ℕ
  tree = held_tree state tree_store

  abbrev sheet : List ℕ
  sheet = held_sheet state sheet_store

  -- no slice is too short
  not_short : short_slice (node_count tree) s ≡ Ok tt
  not_short =
      rw (
        le-leb (node_count tree) (length s.lower) long.lower_long,
        le-leb (node_count tree) (length s.upper) long.upper_long,
        le-leb (node_count tree) (length s.marks) long.marks_long,
      )

  judged : first_of (level_rules state tree_store sheet_store k n) ≡ Ok tt
  unfolding standing_of
  judged = (accepted_absent _ _ counts e).0

  -- no rule is broken
  none_broken : first_of (question_rules state tree_store sheet_store k n s) ≡ Ok tt
  none_broken =
      first_of_append (level_rules state tree_store sheet_store k n) (short_slice (node_count tree) s ∷ [])
      ∙ ap (λ (f : FirstFault). f or_else first_of (short_slice (node_count tree) s ∷ [])) judged
      ∙ ap (λ (f : FirstFault). first_of (f ∷ [])) not_short

  -- the slices are those of the level
  left : slices_left state tree_store sheet_store k n s ≡ slices_after (unit sheet) tree sheet k n s
  unfolding slices_left
  left = ap (λ (f : FirstFault). slices_by f s (slices_after (unit sheet) tree sheet k n s)) none_broken

  -- a node's place holds its ends
  pub left_stored : (w : Direction) (i : ℕ) → i < node_count tree
      → stored_end w (slices_left state tree_store sheet_store k n s) i ≡ node_end (unit sheet) w tree sheet k n i
  left_stored w i l =
      let pair = (ready_pair state tree_store sheet_store k n counts e).pair in
      ap (λ (t : Slices). stored_end w t i) left
      ∙ stored tree sheet k n s
      (record {
        tree_well_formed = pair.tree_well_formed;
        sheet_well_formed = pair.sheet_well_formed;
        same_events = pair.same_events;
        long = long;
      }) pair.level w i l
