-- The files that are handed in and held: the first refusal, and what the stores hold where there is none.
use Prim.Native.Nat.{ℕ, suc, ◌≤◌}
use native.Mathlib.Omega.{arith}
use mathlib.Core.Path.{◌≡◌, refl, sym, ap, ap₂, ◌∙◌}
use mathlib.Core.List.{List, [], ◌∷◌, ◌++◌}
use lib.ListN.{length, take, drop, replicate, length-append, length-replicate}
use lib.Seq.{take-length, take-append_seam}
use borrow.Author.Tests.{le-leb}
use Rattle.std.specs.Prelude.{Result, Ok, Err}
use Rattle.refusals.specs.FirstFault.{FirstFault, first_of}
use Rattle.refusals.proofs.FirstFault.{accepted_absent, refused_found}
use Rattle.refusals.specs.declared.refusal.Refusal.{Refusal}
use Rattle.tree_judging.specs.Judged.{fault_of as tree_fault, counts_of}
use Rattle.tree_judging.specs.declared.judgement.Counts.{Counts}
use Rattle.sheet_judging.specs.Judged.{fault_of as sheet_fault}
use Rattle.held_files.specs.HandIn.{hand_in_fault, answer_by, store_by, handed_answer, handed_store, holding_tree}
use Rattle.held_files.specs.HandIn.{holding_sheet, tree_answer, tree_store, sheet_answer, sheet_store, nothing_held}
use Rattle.held_pair.specs.Standing.{changed, held_tree, held_sheet, level_fault, no_tree, no_sheet, other_tree}
use Rattle.held_pair.specs.Standing.{level_rules, standing_of}
use Rattle.held_files.specs.declared.state.State.{State}
use Rattle.held_files.specs.declared.state.Reply.{Reply}
use Rattle.level_text.specs.Line.{header_line}
use Rattle.printer.specs.Text.{first_refusal, holding, lines_below, levels_text}
use Rattle.printer.specs.Held.{ReadyAt}

-- Files that are held, by what the question's judging found.
module _ (state : State) (tree_bytes sheet_bytes : List ℕ) (n : ℕ) (found : Result Counts Refusal)
    (e : found ≡ standing_of state tree_bytes sheet_bytes n n) where
  -- the first fault of the question
  abbrev question_fault : FirstFault
  question_fault = first_of (level_rules state tree_bytes sheet_bytes n n)

  -- refused by it
  pub question_refused : (r : Refusal) → found ≡ Err r → ◌≡◌ {A = FirstFault} (Err r) question_fault
  unfolding standing_of
  question_refused r q = sym (refused_found _ _ r (sym e ∙ q))

  module _ (counts : Counts) (q : found ≡ Ok counts) where
    -- no rule has a fault, and the counts are the tree's own
    own : (question_fault ≡ Ok tt) × (counts ≡ counts_of (held_tree state tree_bytes))
    unfolding standing_of
    own = accepted_absent _ _ counts (sym e ∙ q)

    pub question_answered : Ok tt ≡ question_fault
    question_answered = sym own.0

    -- the pair is ready with them
    pub held_ready : ReadyAt state tree_bytes sheet_bytes n
    held_ready = sym e ∙ q ∙ ap Ok own.1

    -- with the header put, all lines are still to come
    pub header_put : (draft : List ℕ) → draft ≡ header_line counts.number counts.events n
        → draft ++ lines_below (held_tree state tree_bytes) (held_sheet state sheet_bytes) n (suc n)
        ≡ levels_text (held_tree state tree_bytes) (held_sheet state sheet_bytes) n
    header_put draft p =
        let lines = lines_below (held_tree state tree_bytes) (held_sheet state sheet_bytes) n (suc n) in
        ap (λ (xs : List ℕ). xs ++ lines) p
        ∙ ap (λ (c : Counts). header_line c.number c.events n ++ lines) own.1

-- What handing in an accepted file leaves, beside the rest of its store.
record Taken (fault : FirstFault) (file : List ℕ) (after : State) (answer : Reply (Unit {0})) (kept : List ℕ) : Type 0 where
  none : fault ≡ Ok tt
  state_is : answer.state ≡ after
  rest : List ℕ
  kept_is : kept ≡ file ++ rest

-- A file handed in to a store that takes it, by its own fault and the states before and after.
module _ (fault : FirstFault) (file store : List ℕ) (before after : State) (room : length file ≤ length store)
    (answer : Reply (Unit {0})) (e : answer ≡ handed_answer fault file store before after) where
  -- 20 is not found
  fault_own : hand_in_fault fault file store ≡ fault
  fault_own = go fault
    where
      go : (f : FirstFault) → hand_in_fault f file store ≡ f
      go (Err r) = refl
      go (Ok tt) = rw (le-leb (length file) (length store) room)

  answer_is : answer ≡ answer_by fault before after
  unfolding handed_answer
  answer_is = e ∙ ap (λ (f : FirstFault). answer_by f before after) fault_own

  -- the verdict is the file's fault
  verdict_is : answer.outcome ≡ fault
  verdict_is = ap (λ (a : Reply (Unit {0})). a.outcome) answer_is ∙ go fault
    where
      go : (f : FirstFault) → (answer_by f before after).outcome ≡ f
      go (Err r) = refl
      go (Ok tt) = refl

  -- one of acceptance leaves the file
  taken : (kept : List ℕ) → kept ≡ handed_store fault file store → answer.outcome ≡ Ok tt
      → Taken fault file after answer kept
  unfolding handed_store
  taken kept k v =
      let none : fault ≡ Ok tt = sym verdict_is ∙ v in
      record {
        none = none;
        state_is = ap (λ (a : Reply (Unit {0})). a.state) (answer_is ∙ ap (λ (f : FirstFault). answer_by f before after) none);
        rest = drop (length file) store;
        kept_is = k ∙ ap (λ (f : FirstFault). store_by f file store) (fault_own ∙ none);
      }

-- A file at the front of its store is what is held, and has changed where the file itself has a fault.
module _ (file rest : List ℕ) where
  front_held : take (length file) (file ++ rest) ≡ file
  front_held = take-append_seam file rest

  front_changed : (place : ℕ) (fault : List ℕ → FirstFault)
      → changed place fault (length file) (file ++ rest) ≡ changed place fault (length file) file
  unfolding changed
  front_changed place fault =
      rw (
        front_held,
        take-length file,
        le-leb (length file) (length (file ++ rest)) (omega (arith, length-append file rest)),
        le-leb (length file) (length file) (omega arith),
      )

-- the question of two files at the front of their stores is that of the files
rules_front : (tree sheet tree_rest sheet_rest : List ℕ) (n : ℕ)
    → first_of (level_rules (holding tree sheet) (tree ++ tree_rest) (sheet ++ sheet_rest) n n)
    ≡ first_of (level_rules (holding tree sheet) tree sheet n n)
rules_front tree sheet tree_rest sheet_rest n =
    let held = holding tree sheet in
    ap₂ (λ (t s : FirstFault). first_of (level_fault n n ∷ no_tree held ∷ no_sheet held ∷ t ∷ s
    ∷ other_tree (take (length tree) (tree ++ tree_rest)) (take (length sheet) (sheet ++ sheet_rest)) ∷ []))
    (front_changed tree tree_rest 0 tree_fault) (front_changed sheet sheet_rest 1 sheet_fault)
    ∙ ap₂ (λ (t s : List ℕ). first_of (level_fault n n ∷ no_tree held ∷ no_sheet held
    ∷ changed 0 tree_fault (length tree) tree ∷ changed 1 sheet_fault (length sheet) sheet ∷ other_tree t s ∷ []))
    (front_held tree tree_rest ∙ sym (take-length tree)) (front_held sheet sheet_rest ∙ sym (take-length sheet))

-- Handing in a tree, with a store that takes it and nothing held.
module _ (tree sheet : List ℕ) (n tree_room : ℕ) (l : length tree ≤ tree_room) (with_tree : Reply (Unit {0}))
    (e : with_tree ≡ tree_answer nothing_held tree (replicate tree_room 0)) where
  -- refused
  pub tree_refused : (r : Refusal) → with_tree.outcome ≡ Err r → Err r ≡ first_refusal tree sheet n
  tree_refused r v =
      let verdict = verdict_is (tree_fault tree) tree (replicate tree_room 0) nothing_held
      (holding_tree (length tree) nothing_held) (rw length-replicate l) with_tree e in
      ap (λ (f : FirstFault). first_of (f ∷ sheet_fault sheet ∷ level_rules (holding tree sheet) tree sheet n n))
      (sym v ∙ verdict)

  -- accepted, and then the sheet with a store that takes it
  module _ (v : with_tree.outcome ≡ Ok tt) (tree_bytes : List ℕ)
      (kept : tree_bytes ≡ tree_store tree (replicate tree_room 0)) (sheet_room : ℕ)
      (m : length sheet ≤ sheet_room) (with_both : Reply (Unit {0}))
      (f : with_both ≡ sheet_answer with_tree.state sheet (replicate sheet_room 0)) where
    tree_taken : Taken (tree_fault tree) tree (holding_tree (length tree) nothing_held) with_tree tree_bytes
    tree_taken =
        taken (tree_fault tree) tree (replicate tree_room 0) nothing_held (holding_tree (length tree) nothing_held)
        (rw length-replicate l) with_tree e tree_bytes kept v

    -- refused
    pub sheet_refused : (r : Refusal) → with_both.outcome ≡ Err r → Err r ≡ first_refusal tree sheet n
    sheet_refused r w =
        let verdict = verdict_is (sheet_fault sheet) sheet (replicate sheet_room 0) with_tree.state
        (holding_sheet (length sheet) with_tree.state) (rw length-replicate m) with_both f in
        sym (ap₂ (λ (t s : FirstFault). first_of (t ∷ s ∷ level_rules (holding tree sheet) tree sheet n n))
        tree_taken.none (sym verdict ∙ w))

    -- accepted: both are held
    module _ (w : with_both.outcome ≡ Ok tt) (sheet_bytes : List ℕ)
        (stored : sheet_bytes ≡ sheet_store sheet (replicate sheet_room 0)) where
      sheet_taken : Taken (sheet_fault sheet) sheet (holding_sheet (length sheet) with_tree.state) with_both sheet_bytes
      sheet_taken =
          taken (sheet_fault sheet) sheet (replicate sheet_room 0) with_tree.state
          (holding_sheet (length sheet) with_tree.state) (rw length-replicate m) with_both f sheet_bytes stored w

      -- the state holds them
      state_both : with_both.state ≡ holding tree sheet
      state_both = sheet_taken.state_is ∙ ap (holding_sheet (length sheet)) tree_taken.state_is

      -- the first fault of the question is the first refusal
      pub rules_both : first_of (level_rules with_both.state tree_bytes sheet_bytes n n) ≡ first_refusal tree sheet n
      rules_both =
          ap (λ (s : State). first_of (level_rules s tree_bytes sheet_bytes n n)) state_both
          ∙ ap₂ (λ (t s : List ℕ). first_of (level_rules (holding tree sheet) t s n n)) tree_taken.kept_is
          sheet_taken.kept_is
          ∙ rules_front tree sheet tree_taken.rest sheet_taken.rest n
          ∙ sym (ap₂ (λ (t s : FirstFault). first_of (t ∷ s ∷ level_rules (holding tree sheet) tree sheet n n))
          tree_taken.none sheet_taken.none)

      -- and their text is the files'
      pub text_both : levels_text (held_tree with_both.state tree_bytes) (held_sheet with_both.state sheet_bytes) n
          ≡ levels_text tree sheet n
      text_both =
          ap (λ (s : State). levels_text (held_tree s tree_bytes) (held_sheet s sheet_bytes) n) state_both
          ∙ ap₂ (λ (t s : List ℕ). levels_text (take (length tree) t) (take (length sheet) s) n) tree_taken.kept_is
          sheet_taken.kept_is
          ∙ ap₂ (λ (t s : List ℕ). levels_text t s n) (front_held tree tree_taken.rest) (front_held sheet sheet_taken.rest)
