-- What a pair that is ready is, and at which levels it is ready.
use Prim.Native.Nat.{ℕ, ◌≤◌}
use mathlib.Core.Path.{◌≡◌, refl, sym, ◌∙◌}
use mathlib.Core.Bool.{Bool, true, false, ◌&&◌, and-eq-true_iff}
use mathlib.Core.List.{List}
use lib.ListN.{length}
use lib.Dec.{leb, eqb}
use borrow.Author.Tests.{eqb-true, le-leb, leb-true}
use Rattle.refusals.specs.FirstFault.{unless, ◌or_else◌, first_of}
use Rattle.refusals.specs.declared.rule.Rule.TheVariants.{Changed}
use Rattle.refusals.specs.FirstFault.{FirstFault}
use Rattle.std.specs.Prelude.{Ok, Err}
use Rattle.refusals.proofs.FirstFault.{AllAbsent, both_absent, first_of_absent, found_not_absent, unless_holds}
use Rattle.tree_judging.specs.Judged.{fault_of as tree_fault, counts_of as tree_counts}
use Rattle.tree_judging.specs.declared.judgement.Counts.{Counts}
use Rattle.tree_judging.proofs.Accepted.{accepted_well_formed}
use Rattle.sheet_judging.specs.Judged.{fault_of as sheet_fault, counts_of as sheet_counts}
use Rattle.event_cut.specs.Level.{IsLevel, max_levels}
use Rattle.sheet_judging.specs.declared.judgement.Counts.{Counts as SheetCounts}
use Rattle.sheet_judging.proofs.Accepted.{accepted_well_formed as accepted_well_formed_sheet}
use Rattle.evaluation.specs.Requirements.{Pair}
use Rattle.held_pair.specs.Standing.{held, held_tree, held_sheet, in_range, changed_by, changed, level_rules}
use Rattle.held_pair.specs.Standing.{fitting, standing_of}
use Rattle.held_files.specs.declared.state.State.{State}
use Rattle.refusals.proofs.FirstFault.{accepted_absent}
use Rattle.held_pair.proofs.Standing.{level_in_range}

-- Only an absent fault is no change.
unchanged_by : (place : ℕ) (f : FirstFault) → changed_by place f or_else Ok tt ≡ Ok tt → f ≡ Ok tt
unchanged_by place (Ok tt) e = refl
unchanged_by place (Err r) e = found_not_absent e

-- A file that has not changed is inside its store and without a fault.
pub unchanged : (place : ℕ) (fault : List ℕ → FirstFault) (len : ℕ) (store : List ℕ)
    → changed place fault len store ≡ Ok tt → (len ≤ length store) × (fault (held len store) ≡ Ok tt)
unfolding changed
unchanged place fault len store e =
    let both = both_absent (unless (leb len (length store)) Changed place) _ e in
    (leb-true len (length store) (unless_holds _ _ _ both.0), unchanged_by place _ both.1)

-- A level in range.
level_of : (k n : ℕ) → in_range k n ≡ true → IsLevel k n
level_of k n e =
    let all = (and-eq-true_iff (leb 1 n && leb n max_levels) (leb k n)).0 e in
    let by_n = (and-eq-true_iff (leb 1 n) (leb n max_levels)).0 all.0 in
    record {
      n_positive = leb-true 1 n by_n.0;
      n_bounded = leb-true n max_levels by_n.1;
      k_n = leb-true k n all.1;
    }

-- And out of range there is none.
pub no_level : (k n : ℕ) → (IsLevel k n → ⊥) → in_range k n ≡ false
no_level k n none = go (in_range k n) refl
  where
    go : (b : Bool) → in_range k n ≡ b → in_range k n ≡ false
    go true e = absurd (none (level_of k n e))
    go false e = e

pub level_ranged : (k n : ℕ) → IsLevel k n → in_range k n ≡ true
level_ranged k n level = rw (le-leb 1 n level.n_positive, le-leb n max_levels level.n_bounded, le-leb k n level.k_n)

-- A sheet that fits has the tree's number of basic events.
events_agree : (tree : Counts) (sheet : SheetCounts) → fitting tree sheet ≡ true → sheet.events ≡ tree.events
events_agree tree sheet e =
    eqb-true sheet.events tree.events
    ((and-eq-true_iff (eqb tree.number sheet.number) (eqb sheet.events tree.events)).0 e).1

-- What a ready pair is: both files inside their stores, a pair that can be evaluated, and the counts of its tree.
pub record ReadyPair (state : State) (tree_store sheet_store : List ℕ) (k n : ℕ) (counts : Counts) : Type 0 where
  pub tree_inside : state.tree_len ≤ length tree_store
  pub sheet_inside : state.sheet_len ≤ length sheet_store
  pub pair : Pair (held_tree state tree_store) (held_sheet state sheet_store) k n
  pub counts_is : counts ≡ tree_counts (held_tree state tree_store)

module _ (state : State) (tree_store sheet_store : List ℕ) (k n : ℕ) (counts : Counts)
    (e : standing_of state tree_store sheet_store k n ≡ Ok counts) where
  -- no rule has a fault, and the counts are the tree's own
  absent_own : (first_of (level_rules state tree_store sheet_store k n) ≡ Ok tt)
      × (counts ≡ tree_counts (held_tree state tree_store))
  unfolding standing_of
  absent_own = accepted_absent _ _ counts e

  -- rule by rule
  absent : AllAbsent (level_rules state tree_store sheet_store k n)
  absent = first_of_absent (level_rules state tree_store sheet_store k n) absent_own.0

  -- the level is in range
  ranged : IsLevel k n
  ranged = level_of k n (unless_holds _ _ _ absent.0)

  -- the pair is ready
  pub ready_pair : ReadyPair state tree_store sheet_store k n counts
  ready_pair =
      let tree = held_tree state tree_store in
      let sheet = held_sheet state sheet_store in
      let rules = absent.1.1.1 in
      let tree_own = unchanged 0 tree_fault state.tree_len tree_store rules.0 in
      let sheet_own = unchanged 1 sheet_fault state.sheet_len sheet_store rules.1.0 in
      let fits : fitting (tree_counts tree) (sheet_counts sheet) ≡ true = unless_holds _ _ _ rules.1.1.0 in
      record {
        tree_inside = tree_own.0;
        sheet_inside = sheet_own.0;
        pair = record {
          tree_well_formed = accepted_well_formed tree (tree_counts tree) (rw tree_own.1);
          sheet_well_formed = accepted_well_formed_sheet sheet (sheet_counts sheet) (rw sheet_own.1);
          same_events = events_agree (tree_counts tree) (sheet_counts sheet) fits;
          level = ranged;
        };
        counts_is = absent_own.1;
      }

  -- it is ready at every level of as many
  pub ready_at : (j : ℕ) → j ≤ n → standing_of state tree_store sheet_store j n ≡ Ok counts
  ready_at j l =
      let within : in_range j n ≡ true =
      level_ranged j n (record { n_positive = ranged.n_positive; n_bounded = ranged.n_bounded; k_n = l }) in
      level_in_range state tree_store sheet_store j n within
      ∙ sym (level_in_range state tree_store sheet_store k n (unless_holds _ _ _ absent.0)) ∙ e
