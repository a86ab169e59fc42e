-- What follows from the answers of the hand-ins: the held lengths stay inside the stores, and of a pair the first
-- refusal is answered, or both files are held.
use Rattle.std.proofs.Common.{◌≡◌, ◌≤◌, ℕ, List, length, take, drop, replicate, refl, ap, inl, inr}
use Rattle.std.proofs.lemmas.Bool.Decides.{leb_tells}
use Rattle.std.proofs.lemmas.List.{take_at}
use Rattle.std.specs.Prelude.{Ok, Err}
use Rattle.refusals.specs.FirstFault.{FirstFault}
use Rattle.refusals.specs.declared.refusal.Refusal.{Refusal}
use Rattle.held_files.specs.HandIn.{handed_answer, handed_store}
use Rattle.held_files.specs.HandIn.{holding_tree, holding_sheet, tree_store, sheet_answer, sheet_store, nothing_held}
use Rattle.held_pair.specs.Standing.{held_tree, held_sheet}
use Rattle.held_files.specs.declared.state.State.{State}
use Rattle.held_files.specs.declared.state.Reply.{Reply}
use Rattle.held_files.specs.declared.held.TheConstants.{MOST_TREE, MOST_SHEET}
use Rattle.held_stores.specs.Pair.{tree_answered, pair_fault}

-- No held length is beyond its store.
abbrev pub Inside : State → Type 0
Inside state = (state.tree_len ≤ MOST_TREE) × (state.sheet_len ≤ MOST_SHEET)

module _ (file store : List ℕ) (before after : State) where
  -- a file longer than its store is not taken in
  pub inside_after : (fault : FirstFault) (answer : Reply (Unit {0})) → answer ≡ handed_answer fault file store before after
      → Inside before → (length file ≤ length store → Inside after) → Inside answer.state
  unfolding handed_answer
  inside_after (Err r) answer e kept fits = rw e kept
  inside_after (Ok tt) answer e kept fits =
      rw e (elim (leb_tells (length file) (length store)) [ inl l ↦ rw l.0 (fits l.1) | inr g ↦ rw g.0 kept ])

  -- a file that is taken in is the one that its state and store hold
  pub taken_in : (fault : FirstFault) (state : State)
      → record { state = state; outcome = Ok tt } ≡ handed_answer fault file store before after
      → (state ≡ after) × (take (length file) (handed_store fault file store) ≡ file)
  unfolding handed_answer handed_store
  taken_in (Err r) state e = let verdict : Ok tt ≡ Err r = ap (λ (a : Reply (Unit {0})). a.outcome) e in cc
  taken_in (Ok tt) state e =
      elim (leb_tells (length file) (length store)) [
        | inl l ↦ (ap (λ (a : Reply (Unit {0})). a.state) (rw l.0 at e), rw l.0 (take_at file (drop (length file) store) (length file) refl))
        | inr g ↦ let outcome = ap (λ (a : Reply (Unit {0})). a.outcome) (rw g.0 at e) in cc
      ]

module _ (tree sheet : List ℕ) (with_tree : State) where
  -- the tree is refused
  pub tree_refused : (r : Refusal) → record { state = with_tree; outcome = Err r } ≡ tree_answered tree
      → pair_fault tree sheet ≡ Err r
  tree_refused r e = rw (← e) refl

  module _ (t : record { state = with_tree; outcome = Ok tt } ≡ tree_answered tree) (with_both : State) where
    -- the sheet is refused
    pub sheet_refused : (r : Refusal)
        → record { state = with_both; outcome = Err r } ≡ sheet_answer with_tree sheet (replicate MOST_SHEET 0)
        → pair_fault tree sheet ≡ Err r
    sheet_refused r e = rw (← t, ← e) refl

    -- both are taken in
    pub both_held : record { state = with_both; outcome = Ok tt } ≡ sheet_answer with_tree sheet (replicate MOST_SHEET 0)
        → (held_tree with_both (tree_store tree (replicate MOST_TREE 0)) ≡ tree)
        × (held_sheet with_both (sheet_store sheet (replicate MOST_SHEET 0)) ≡ sheet)
    both_held e =
        let of_tree = taken_in tree (replicate MOST_TREE 0) nothing_held (holding_tree (length tree) nothing_held) _ with_tree t in
        let of_sheet = taken_in sheet (replicate MOST_SHEET 0) with_tree (holding_sheet (length sheet) with_tree) _ with_both e in
        (rw (of_sheet.0, of_tree.0) of_tree.1, rw of_sheet.0 of_sheet.1)
