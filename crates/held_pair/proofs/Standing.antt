-- The standing of what is held, by what each part of the judging finds: one law for each return.
use Prim.Native.Nat.{ℕ, ◌≤◌, ◌<◌}
use mathlib.Core.Path.{◌≡◌, sym, ap, ◌∙◌}
use mathlib.Core.Bool.{Bool, true, false}
use mathlib.Core.List.{List}
use native.Mathlib.Omega.{arith}
use lib.ListN.{length}
use lib.Dec.{leb}
use borrow.Author.Tests.{le-leb, lt-leb}
use Rattle.std.specs.Prelude.{Result, Ok, Err}
use Rattle.refusals.specs.FirstFault.{FirstFault, judged_by}
use Rattle.refusals.specs.Order.{refusal}
use Rattle.refusals.specs.declared.rule.Rule.TheVariants.{NoTree, NoSheet, Changed, OtherTree, WrongLevel}
use Rattle.refusals.specs.declared.refusal.Refusal.{Refusal}
use Rattle.refusals.proofs.FirstFault.{accepted_absent, or_else_absent, refused_found}
use Rattle.tree_judging.specs.Judged.{counts_of as tree_counts}
use Rattle.tree_judging.specs.declared.judgement.Counts.{Counts}
use Rattle.sheet_judging.specs.Judged.{counts_of as sheet_counts}
use Rattle.sheet_judging.specs.declared.judgement.Counts.{Counts as SheetCounts}
use Rattle.held_pair.specs.Standing.{held, held_tree, held_sheet, in_range, changed, tree_changed, sheet_changed}
use Rattle.held_pair.specs.Standing.{fitting, tree_standing, pair_standing, standing_of}
use Rattle.held_files.specs.declared.state.State.{State}

-- A held file of any kind, by the fault of its bytes and what an accepted one holds.
module _ {C : Type 0} (place : ℕ) (fault : List ℕ → FirstFault) (counts : List ℕ → C) (len : ℕ) (store : List ℕ) where
  -- what is judged of it
  abbrev stands : Result C Refusal
  stands = judged_by (changed place fault len store) (counts (held len store))

  -- one held beyond its store has changed
  pub changed_beyond : (q : Refusal) → q ≡ refusal Changed place → length store < len → Err q ≡ stands
  unfolding changed
  changed_beyond q e l = rw (e, lt-leb len (length store) l)

  module _ (l : len ≤ length store) (j : Result C Refusal)
      (je : j ≡ judged_by (fault (held len store)) (counts (held len store))) where
    -- one inside it has changed where it has a fault
    pub changed_found : (q r : Refusal) → q ≡ refusal Changed place → j ≡ Err r → Err q ≡ stands
    unfolding changed
    changed_found q r e x =
        let found : fault (held len store) ≡ Err r = refused_found _ _ r (sym je ∙ x) in
        rw (e, le-leb len (length store) l, found)

    -- one without a fault has not
    pub changed_none : (c : C) → j ≡ Ok c → Ok c ≡ stands
    unfolding changed
    changed_none c x =
        let own = accepted_absent _ _ c (sym je ∙ x) in
        rw (le-leb len (length store) l, own.0, own.1)

module _ (state : State) (tree_store : List ℕ) where
  -- 21
  pub tree_missing : (q : Refusal) → q ≡ refusal NoTree 0 → state.tree_len ≡ 0
      → Err q ≡ tree_standing state tree_store
  unfolding tree_standing
  tree_missing q e z = rw (e, z)

  -- 23, or ready
  pub tree_judged : (state.tree_len ≡ 0 → ⊥) → (r : Result Counts Refusal)
      → r ≡ judged_by (tree_changed state tree_store) (tree_counts (held_tree state tree_store))
      → r ≡ tree_standing state tree_store
  unfolding tree_standing
  tree_judged some r e =
      rw (le-leb 1 state.tree_len (omega arith), or_else_absent (tree_changed state tree_store)) e

module _ (state : State) (tree_store sheet_store : List ℕ) where
  -- 21
  pub pair_no_tree : (q : Refusal) → q ≡ refusal NoTree 0 → state.tree_len ≡ 0
      → Err q ≡ pair_standing state tree_store sheet_store
  unfolding pair_standing
  pair_no_tree q e z = rw (e, z)

  module _ (some_tree : state.tree_len ≡ 0 → ⊥) where
    -- a tree is held
    tree_held : leb 1 state.tree_len ≡ true
    tree_held = le-leb 1 state.tree_len (omega arith)

    -- 22
    pub pair_no_sheet : (q : Refusal) → q ≡ refusal NoSheet 0 → state.sheet_len ≡ 0
        → Err q ≡ pair_standing state tree_store sheet_store
    unfolding pair_standing
    pair_no_sheet q e z = rw (e, tree_held, z)

    module _ (some_sheet : state.sheet_len ≡ 0 → ⊥) (t : Result Counts Refusal)
        (te : t ≡ judged_by (tree_changed state tree_store) (tree_counts (held_tree state tree_store))) where
      -- a sheet is held
      sheet_held : leb 1 state.sheet_len ≡ true
      sheet_held = le-leb 1 state.sheet_len (omega arith)

      -- 23 of the tree
      pub pair_tree_changed : (x : Refusal) → t ≡ Err x → Err x ≡ pair_standing state tree_store sheet_store
      unfolding pair_standing
      pair_tree_changed x q =
          let found : tree_changed state tree_store ≡ Err x = refused_found _ _ x (sym te ∙ q) in
          rw (tree_held, sheet_held, found)

      module _ (tc : Counts) (tq : t ≡ Ok tc) (s : Result SheetCounts Refusal)
          (se : s ≡ judged_by (sheet_changed state sheet_store) (sheet_counts (held_sheet state sheet_store))) where
        -- the tree has not changed, and the counts are its own
        tree_own : (tree_changed state tree_store ≡ Ok tt) × (tc ≡ tree_counts (held_tree state tree_store))
        tree_own = accepted_absent _ _ tc (sym te ∙ tq)

        -- 23 of the sheet
        pub pair_sheet_changed : (x : Refusal) → s ≡ Err x → Err x ≡ pair_standing state tree_store sheet_store
        unfolding pair_standing
        pair_sheet_changed x q =
            let found : sheet_changed state sheet_store ≡ Err x = refused_found _ _ x (sym se ∙ q) in
            rw (tree_held, sheet_held, tree_own.0, found)

        module _ (sc : SheetCounts) (sq : s ≡ Ok sc) (b : Bool) (be : b ≡ fitting tc sc) where
          -- the sheet has not changed, and the counts are its own
          sheet_own : (sheet_changed state sheet_store ≡ Ok tt) × (sc ≡ sheet_counts (held_sheet state sheet_store))
          sheet_own = accepted_absent _ _ sc (sym se ∙ sq)

          -- what was compared are the files held
          compared : b
              ≡ fitting (tree_counts (held_tree state tree_store)) (sheet_counts (held_sheet state sheet_store))
          compared = be ∙ (λ i. fitting (tree_own.1 i) (sheet_own.1 i))

          -- 24
          pub pair_other : b ≡ false → (q : Refusal) → q ≡ refusal OtherTree 0
              → Err q ≡ pair_standing state tree_store sheet_store
          unfolding pair_standing
          pair_other f q e = rw (e, tree_held, sheet_held, tree_own.0, sheet_own.0, ← compared, f)

          -- no refusal
          pub pair_ready : b ≡ true → Ok tc ≡ pair_standing state tree_store sheet_store
          unfolding pair_standing
          pair_ready f = rw (tree_held, sheet_held, tree_own.0, sheet_own.0, ← compared, f) (ap Ok tree_own.1)

-- A level in range leaves the pair's own refusals.
pub level_in_range : (state : State) (tree_store sheet_store : List ℕ) (k n : ℕ) → in_range k n ≡ true
    → standing_of state tree_store sheet_store k n ≡ pair_standing state tree_store sheet_store
unfolding standing_of pair_standing
level_in_range state tree_store sheet_store k n e = rw e

-- 13
pub level_out_of_range : (state : State) (tree_store sheet_store : List ℕ) (k n : ℕ) (q : Refusal)
    → q ≡ refusal WrongLevel 0 → in_range k n ≡ false → Err q ≡ standing_of state tree_store sheet_store k n
unfolding standing_of
level_out_of_range state tree_store sheet_store k n q qe e = rw (qe, e)

-- A file without a fault, held inside its store, has not changed.
pub changed_absent : (place : ℕ) (fault : List ℕ → FirstFault) (len : ℕ) (store : List ℕ) → len ≤ length store
    → fault (held len store) ≡ Ok tt → changed place fault len store ≡ Ok tt
unfolding changed
changed_absent place fault len store l e = rw (le-leb len (length store) l, e)

-- A standing that is ready comes of no fault, with the tree's own counts.
pub ready_absent : (f : FirstFault) (own c : Counts) → judged_by f own ≡ Ok c → (f ≡ Ok tt) × (c ≡ own)
ready_absent f own c e = accepted_absent f own c e

-- One that is refused comes of that fault.
pub standing_found : (f : FirstFault) (own : Counts) (r : Refusal) → judged_by f own ≡ Err r → f ≡ Err r
standing_found f own r e = refused_found f own r e
