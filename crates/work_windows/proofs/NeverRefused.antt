-- Once the hour's sheet is written, the question that is put to it is answered: none of monitor's rules refuses it.
use Prim.Native.Nat.{ℕ, ◌≤◌}
use mathlib.Core.Path.{◌≡◌, sym, ap, ◌∙◌}
use mathlib.Core.List.{List}
use native.Mathlib.Omega.{arith}
use lib.ListN.{length, drop, length-append}
use lib.Seq.{length-take-le}
use borrow.Author.Tests.{le-leb}
use Rattle.refusals.specs.FirstFault.{unless, first_of, judged_by}
use Rattle.refusals.specs.declared.rule.Rule.TheVariants.{OtherTree}
use Rattle.refusals.specs.FirstFault.{FirstFault}
use Rattle.std.specs.Prelude.{Ok}
use Rattle.refusals.proofs.FirstFault.{AllAbsent, absent_first_of, both_absent, first_of_absent, first_of_append}
use Rattle.tree_file.specs.Format.{node_count}
use Rattle.tree_file.specs.Tallies.{event_count}
use Rattle.tree_judging.specs.Judged.{counts_of as tree_counts}
use Rattle.opinion_sheet.specs.Format.{unit}
use Rattle.sheet_judging.specs.Judged.{fault_of as sheet_fault, counts_of as sheet_counts}
use Rattle.opinion_sheet.specs.WellFormed.{WellFormed}
use Rattle.sheet_judging.specs.declared.judgement.Counts.{Counts as SheetCounts}
use Rattle.sheet_judging.proofs.Accepted.{accepted_well_formed}
use Rattle.sheet_judging.proofs.HeaderKept.{same_counts}
use Rattle.work_slices.specs.Slices.{Slices}
use Rattle.held_pair.specs.Standing.{held_tree, held_sheet, changed, sheet_changed, other_tree, fitting, level_rules}
use Rattle.monitor.specs.Question.{outcome_of, question_rules, report_of}
use Rattle.held_files.specs.declared.state.State.{State}
use Rattle.held_pair.proofs.Ready.{unchanged}
use Rattle.hour_sheet.specs.OutOfService.{out_of_service}
use Rattle.hour_sheet.specs.Sheet.{Written, written_sheet}
use Rattle.work_windows.specs.Question.{lent_rules, hour_rules, written_buffer}
use Rattle.hour_sheet.proofs.SheetWritten.{sheet_front, sheet_means}
use Rattle.hour_sheet.proofs.Accepted.{written_unfaulted}

module _ (state : State) (tree_store sheet_store book : List ℕ) (k n hour : ℕ) (buffer : List ℕ) (s : Slices)
    (none : first_of (hour_rules state tree_store sheet_store book k n hour buffer s) ≡ Ok tt) where
  -- the two files held, the sheet of the hour, and the buffer that it is written to
  abbrev tree : List ℕ
  tree = held_tree state tree_store

  abbrev sheet : List ℕ
  sheet = held_sheet state sheet_store

  abbrev written : List ℕ
  written = written_sheet sheet book hour

  abbrev after : List ℕ
  after = written_buffer state tree_store sheet_store book k n hour buffer s

  abbrev lent : List FirstFault
  lent = lent_rules (event_count tree) (node_count tree) state.sheet_len book (length buffer) s

  -- no rule of the level and the pair is broken, and none of what is lent
  parts : (first_of (level_rules state tree_store sheet_store k n) ≡ Ok tt) × (first_of lent ≡ Ok tt)
  parts = both_absent _ _ (sym (first_of_append (level_rules state tree_store sheet_store k n) lent) ∙ none)

  level_absent : AllAbsent (level_rules state tree_store sheet_store k n)
  level_absent = first_of_absent (level_rules state tree_store sheet_store k n) parts.0

  -- the held sheet is inside its store and without a fault
  held : (state.sheet_len ≤ length sheet_store) × (sheet_fault sheet ≡ Ok tt)
  held = unchanged 1 sheet_fault state.sheet_len sheet_store level_absent.1.1.1.1.0

  sheet_formed : WellFormed sheet
  sheet_formed = accepted_well_formed sheet (sheet_counts sheet) (rw held.1)

  sheet_length : length sheet ≡ state.sheet_len
  sheet_length = length-take-le state.sheet_len sheet_store held.0

  -- what the hour's sheet is
  means : Written sheet (out_of_service book hour) written
  means = sheet_means sheet sheet_formed.header.length_value (out_of_service book hour)

  -- it is the front of the buffer
  front : held_sheet state after ≡ written
  front = sheet_front sheet sheet_formed.header.length_value (out_of_service book hour) _ sheet_length _

  -- it has not changed, for monitor,
  same_sheet : sheet_changed state after ≡ Ok tt
  unfolding changed
  same_sheet =
      let inside : state.sheet_len ≤ length after =
      omega (arith, length-append written (drop state.sheet_len buffer), means.length_kept, sheet_length) in
      rw (le-leb _ _ inside, ap sheet_fault front ∙ written_unfaulted sheet (out_of_service book hour) written means sheet_formed)

  -- and is for the same tree
  same_tree : other_tree tree (held_sheet state after) ≡ other_tree tree sheet
  same_tree =
      ap (λ (x : List ℕ). other_tree tree x) front
      ∙ ap (λ (c : SheetCounts). unless (fitting (tree_counts tree) c) OtherTree 0)
      (same_counts sheet written means.header_kept)

  -- no rule of the question is broken
  question_unfaulted : first_of (question_rules state tree_store after k n s) ≡ Ok tt
  question_unfaulted =
      let level = level_absent in
      let short = (first_of_absent lent parts.1).1.1.0 in
      absent_first_of (question_rules state tree_store after k n s) (
        level.0,
        (
          level.1.0,
          (
            level.1.1.0,
            (level.1.1.1.0, (same_sheet, (same_tree ∙ level.1.1.1.1.1.0, (short, tt)))),
          ),
        ),
      )

  -- so the question is answered, with the report of the hour's sheet
  pub hour_answered : outcome_of state tree_store after k n s ≡ Ok (report_of (unit written) tree written k n)
  unfolding outcome_of
  hour_answered =
      let held = held_sheet state after in
      ap (λ (f : FirstFault). judged_by f (report_of (unit held) tree held k n)) question_unfaulted
      ∙ ap (λ (x : List ℕ). Ok (report_of (unit x) tree x k n)) front
