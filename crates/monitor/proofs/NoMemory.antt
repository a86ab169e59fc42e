-- A question has no memory: of the two stores it sees the bytes held and nothing else. Whatever lies behind them, equal
-- bytes get equal answers. A held length beyond its store is seen in the bytes held too: they are fewer.
use Prim.Native.Nat.{ℕ, zero, suc}
use mathlib.Core.Path.{◌≡◌, refl, sym, ◌∙◌}
use mathlib.Core.List.{List, [], ◌∷◌}
use lib.ListN.{length}
use lib.Dec.{leb, leb-zero, leb-suc-suc}
use Rattle.refusals.specs.FirstFault.{FirstFault}
use Rattle.tree_judging.specs.Judged.{fault_of as tree_fault}
use Rattle.sheet_judging.specs.Judged.{fault_of as sheet_fault}
use Rattle.work_slices.specs.Slices.{Slices}
use Rattle.held_pair.specs.Standing.{held, held_tree, held_sheet, changed, tree_changed, sheet_changed}
use Rattle.monitor.specs.Question.{outcome_of, reply_of, slices_left}
use Rattle.held_files.specs.declared.state.State.{State}

-- Whether a length lies inside the store can be read from the bytes held.
inside_held : (len : ℕ) (store : List ℕ) → leb len (length store) ≡ leb len (length (held len store))
inside_held zero store = leb-zero (length store)
inside_held (suc len) [] = refl
inside_held (suc len) (x ∷ xs) =
    leb-suc-suc len (length xs) ∙ inside_held len xs ∙ sym (leb-suc-suc len (length (held len xs)))

-- 23 goes by the bytes held.
changed_alike : (place : ℕ) (fault : List ℕ → FirstFault) (len : ℕ) (store other : List ℕ)
    → held len store ≡ held len other → changed place fault len store ≡ changed place fault len other
unfolding changed
changed_alike place fault len store other e =
    rw (inside_held len store, e, ← inside_held len other)

-- 23 of the tree.
tree_changed_alike : (state : State) (store other : List ℕ) → held_tree state store ≡ held_tree state other
    → tree_changed state store ≡ tree_changed state other
tree_changed_alike state store other e = changed_alike 0 tree_fault state.tree_len store other e

-- 23 of the sheet.
sheet_changed_alike : (state : State) (store other : List ℕ) → held_sheet state store ≡ held_sheet state other
    → sheet_changed state store ≡ sheet_changed state other
sheet_changed_alike state store other e = changed_alike 1 sheet_fault state.sheet_len store other e

-- Two questions at the same level, with the same state and slices, on two pairs of stores that hold the same bytes: the
-- same reply, and the same slices after.
pub no_memory : (state : State) (tree_store sheet_store other_tree_store other_sheet_store : List ℕ)
    → held_tree state tree_store ≡ held_tree state other_tree_store
    → held_sheet state sheet_store ≡ held_sheet state other_sheet_store
    → (k n : ℕ) (s : Slices)
    → (reply_of state tree_store sheet_store k n s ≡ reply_of state other_tree_store other_sheet_store k n s)
    × (slices_left state tree_store sheet_store k n s ≡ slices_left state other_tree_store other_sheet_store k n s)
unfolding outcome_of slices_left
no_memory state tree_store sheet_store other_tree_store other_sheet_store same_tree same_sheet k n s =
    rw (
      tree_changed_alike state tree_store other_tree_store same_tree,
      sheet_changed_alike state sheet_store other_sheet_store same_sheet,
      same_tree,
      same_sheet,
    )
    (refl, refl)
