-- The reply of a question and the slices after it, by what its judging and the slices' lengths show.
use Prim.Native.Nat.{ℕ}
use mathlib.Core.Path.{◌≡◌, refl, sym, ap, ◌∙◌}
use mathlib.Core.Bool.{◌&&◌, and-eq-true_iff}
use mathlib.Core.List.{List, [], ◌∷◌}
use lib.ListN.{length}
use lib.Dec.{leb}
use borrow.Author.Tests.{leb-true}
use Rattle.refusals.specs.FirstFault.{◌or_else◌, first_of}
use Rattle.refusals.specs.declared.refusal.Refusal.{Refusal}
use Rattle.refusals.specs.FirstFault.{FirstFault}
use Rattle.std.specs.Prelude.{Ok, Err}
use Rattle.refusals.proofs.FirstFault.{first_of_append, unless_holds}
use Rattle.tree_file.specs.Format.{node_count}
use Rattle.tree_judging.specs.declared.judgement.Counts.{Counts}
use Rattle.opinion_sheet.specs.Format.{unit}
use Rattle.work_slices.specs.Slices.{Slices, Long}
use Rattle.evaluation.specs.Report.{slices_after}
use Rattle.evaluation.specs.Requirements.{Evaluable}
use Rattle.held_pair.specs.Standing.{held_tree, held_sheet, level_rules, short_slice, standing_of}
use Rattle.monitor.specs.Question.{report_of, question_rules, outcome_of, slices_left}
use Rattle.monitor.specs.Promise.{PromisesKept}
use Rattle.held_files.specs.declared.state.State.{State}
use Rattle.std.specs.Prelude.{Result}
use Rattle.monitor.specs.declared.question.Report.{Report}
use Rattle.refusals.proofs.FirstFault.{accepted_absent, refused_found}
use Rattle.held_pair.proofs.Ready.{ReadyPair, ready_pair}
use Rattle.monitor.proofs.Answer.{answer_kept}

-- Slices that are not too short are long enough.
long_enough : (nodes : ℕ) (s : Slices) → short_slice nodes s ≡ Ok tt → Long nodes s
long_enough nodes s e =
    let first = leb nodes (length s.lower) in
    let second = leb nodes (length s.upper) in
    let all = (and-eq-true_iff (first && second) (leb nodes (length s.marks))).0 (unless_holds _ _ _ e) in
    let both = (and-eq-true_iff first second).0 all.0 in
    record {
      lower_long = leb-true nodes (length s.lower) both.0;
      upper_long = leb-true nodes (length s.upper) both.1;
      marks_long = leb-true nodes (length s.marks) all.1;
    }

module _ (state : State) (tree_store sheet_store : List ℕ) (k n : ℕ) (s : Slices) where
  -- the tree file held
  abbrev tree : List ℕ
  tree = held_tree state tree_store

  -- the sheet held
  abbrev sheet : List ℕ
  sheet = held_sheet state sheet_store

  -- all that is promised of a reply with that outcome, and of the slices then
  abbrev AllPromised : Result Report Refusal → Slices → Type 0
  AllPromised o left =
      (o ≡ outcome_of state tree_store sheet_store k n s)
      × ((left ≡ slices_left state tree_store sheet_store k n s) × PromisesKept (unit sheet) o tree sheet k n left)

  -- the first fault: that of the judging, or else 25
  abbrev fault : FirstFault
  fault = first_of (question_rules state tree_store sheet_store k n s)

  -- 25
  abbrev last : FirstFault
  last = first_of (short_slice (node_count tree) s ∷ [])

  -- a refusal leaves every slice as it was
  refused_all : (r : Refusal) → fault ≡ Err r → AllPromised (Err r) s
  unfolding outcome_of slices_left
  refused_all r e = rw e (refl, (refl, tt))

  -- the first fault by that of the judging
  fault_is : (f : FirstFault) → first_of (level_rules state tree_store sheet_store k n) ≡ f → fault ≡ f or_else last
  fault_is f e =
      first_of_append (level_rules state tree_store sheet_store k n) (short_slice (node_count tree) s ∷ [])
      ∙ ap (λ (f : FirstFault). f or_else last) e

  module _ (found : Result Counts Refusal) (e : found ≡ standing_of state tree_store sheet_store k n) where
    -- refused by the judging
    pub refused_by_judging : (r : Refusal) → found ≡ Err r → AllPromised (Err r) s
    unfolding standing_of
    refused_by_judging r q = refused_all r (fault_is (Err r) (refused_found _ _ r (sym e ∙ q)))

    module _ (counts : Counts) (q : found ≡ Ok counts) where
      -- what a pair that is ready is
      ready : ReadyPair state tree_store sheet_store k n counts
      ready = ready_pair state tree_store sheet_store k n counts (sym e ∙ q)

      module _ (short : FirstFault) (se : short ≡ short_slice counts.nodes s) where
        -- 25 is found by the tree's own count
        short_is : (f : FirstFault) → short ≡ f → short_slice (node_count tree) s ≡ f
        short_is f t = ap (λ (c : Counts). short_slice c.nodes s) (sym ready.counts_is) ∙ sym se ∙ t

        -- what is found is then the first fault
        ready_fault : (f : FirstFault) → short ≡ f → fault ≡ first_of (f ∷ [])
        unfolding standing_of
        ready_fault f t =
            fault_is (Ok tt) (accepted_absent _ _ counts (sym e ∙ q)).0
            ∙ ap (λ (f : FirstFault). first_of (f ∷ [])) (short_is f t)

        -- refused by 25
        pub refused_by_slices : (r : Refusal) → short ≡ Err r → AllPromised (Err r) s
        refused_by_slices r t = refused_all r (ready_fault (Err r) t)

        module _ (t : short ≡ Ok tt) where
          -- what the evaluation asks
          pub evaluable : Evaluable tree sheet s
          evaluable = record {
            tree_well_formed = ready.pair.tree_well_formed;
            sheet_well_formed = ready.pair.sheet_well_formed;
            same_events = ready.pair.same_events;
            long = long_enough (node_count tree) s (short_is (Ok tt) t);
          }

          -- answered
          pub answered_all : (report : Report) → report ≡ report_of (unit sheet) tree sheet k n → (left : Slices)
              → left ≡ slices_after (unit sheet) tree sheet k n s → AllPromised (Ok report) left
          unfolding outcome_of slices_left
          answered_all report er left es =
              rw (ready_fault (Ok tt) t, er, es)
              (refl, (refl, answer_kept tree sheet k n s evaluable ready.pair.level))
