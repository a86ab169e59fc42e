-- A pair that is ready for level n of n is answered at every level.
use Prim.Native.Nat.{ℕ, ◌≤◌}
use mathlib.Core.Path.{◌≡◌, ap, ◌∙◌}
use mathlib.Core.Bool.{Bool, true, ◌&&◌}
use mathlib.Core.List.{List, [], ◌∷◌}
use lib.ListN.{length, replicate, length-replicate}
use lib.Dec.{leb}
use borrow.Author.Tests.{le-leb}
use Rattle.theory.specs.Unit.{billion}
use Rattle.refusals.specs.FirstFault.{FirstFault, unless, ◌or_else◌, first_of, judged_by}
use Rattle.refusals.specs.declared.rule.Rule.TheVariants.{ShortSlice}
use Rattle.std.specs.Prelude.{Ok}
use Rattle.refusals.proofs.FirstFault.{accepted_absent, first_of_append}
use Rattle.tree_file.specs.Format.{max_nodes, node_count}
use Rattle.tree_judging.specs.Judged.{counts_of}
use Rattle.work_slices.specs.Slices.{slices}
use Rattle.held_pair.specs.Standing.{held_tree, held_sheet, level_rules, short_slice, standing_of}
use Rattle.monitor.specs.Question.{outcome_of, report_of}
use Rattle.held_files.specs.declared.state.State.{State}
use Rattle.monitor.specs.declared.question.Report.{Report}
use Rattle.held_pair.proofs.Ready.{ready_pair, ready_at}
use Rattle.printer.specs.Held.{ReadyAt}

-- the work slices as they are lent
abbrev zeros : List ℕ
zeros = replicate max_nodes 0

module _ (state : State) (tree_store sheet_store : List ℕ) (k n : ℕ) (l : k ≤ n)
    (ready : ReadyAt state tree_store sheet_store n) where
  -- the tree file held
  abbrev tree : List ℕ
  tree = held_tree state tree_store

  -- what is to be answered
  abbrev report_here : Report
  report_here = report_of billion tree (held_sheet state sheet_store) k n

  -- no rule of the level has a fault
  level_absent : first_of (level_rules state tree_store sheet_store k n) ≡ Ok tt
  unfolding standing_of
  level_absent =
      (accepted_absent _ _ (counts_of tree)
      (ready_at state tree_store sheet_store n n (counts_of tree) ready k l)).0

  -- nor has 25
  long : leb (node_count tree) (length zeros) ≡ true
  long =
      let pair = (ready_pair state tree_store sheet_store n n (counts_of tree) ready).pair in
      le-leb (node_count tree) (length zeros) (rw length-replicate pair.tree_well_formed.header.nodes_most)

  pub answered : outcome_of state tree_store sheet_store k n (slices zeros zeros zeros) ≡ Ok report_here
  unfolding outcome_of
  answered =
      let short = short_slice (node_count tree) (slices zeros zeros zeros) in
      ap (λ (f : FirstFault). judged_by f report_here)
      (first_of_append (level_rules state tree_store sheet_store k n) (short ∷ [])
      ∙ ap (λ (f : FirstFault). f or_else first_of (short ∷ [])) level_absent
      ∙ ap (λ (b : Bool). first_of (unless (b && b && b) ShortSlice 0 ∷ [])) long)
