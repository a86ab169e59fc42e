-- What the call comes to and leaves, by what its judging and the buffers' lengths show: one law for each return.
use Prim.Native.Nat.{ℕ, ◌≤◌}
use mathlib.Core.Path.{◌≡◌, refl, sym, ap, ◌∙◌}
use mathlib.Core.Bool.{Bool, true, false, ◌&&◌, and-eq-true_iff}
use mathlib.Core.List.{List, [], ◌∷◌, ◌++◌}
use lib.ListN.{length, drop}
use lib.Dec.{leb}
use borrow.Author.Tests.{leb-true}
use Rattle.refusals.specs.FirstFault.{FirstFault, unless, ◌or_else◌, first_of}
use Rattle.refusals.specs.Order.{refusal}
use Rattle.refusals.specs.declared.rule.Rule.TheVariants.{ShortMirror}
use Rattle.refusals.specs.declared.refusal.Refusal.{Refusal}
use Rattle.std.specs.Prelude.{Ok, Err}
use Rattle.refusals.proofs.FirstFault.{accepted_absent, first_of_append, refused_found}
use Rattle.tree_judging.specs.declared.judgement.Counts.{Counts}
use Rattle.opinion_sheet.specs.Format.{unit}
use Rattle.held_pair.specs.Standing.{held_tree, held_sheet, pair_rules, pair_standing}
use Rattle.held_files.specs.declared.state.State.{State}
use Rattle.std.specs.Prelude.{Result}
use Rattle.held_pair.proofs.Ready.{ReadyPair}
use Rattle.dual_files.specs.Tree.{dual_tree}
use Rattle.dual_files.specs.Sheet.{complement_sheet}
use Rattle.success_tree.specs.Reply.{short_buffers, dual_rules, tree_left, sheet_left}
use Rattle.success_tree.specs.Law.{LawKept}
use Rattle.dual_files.specs.Writing.{TreeAsked, SheetAsked}
use Rattle.dual_files.proofs.TreeWritten.{tree_long}
use Rattle.dual_files.proofs.SheetWritten.{sheet_long}
use Rattle.success_tree.proofs.LawKept.{held, tree_length, sheet_length, law_kept}

module _ (state : State) (tree_store sheet_store tree_buffer sheet_buffer : List ℕ) where
  abbrev tree : List ℕ
  tree = held_tree state tree_store

  abbrev sheet : List ℕ
  sheet = held_sheet state sheet_store

  abbrev rules : List FirstFault
  rules = dual_rules state tree_store sheet_store tree_buffer sheet_buffer

  -- all that is promised of an outcome, and of the buffers then
  abbrev AllPromised : FirstFault → List ℕ → List ℕ → Type 0
  AllPromised o tree_after sheet_after =
      (o ≡ first_of rules)
      × ((tree_after ≡ tree_left state tree_store sheet_store tree_buffer sheet_buffer)
      × ((sheet_after ≡ sheet_left state tree_store sheet_store tree_buffer sheet_buffer)
      × LawKept (unit sheet) o state tree_store sheet_store tree_after sheet_after))

  -- a refusal leaves both buffers as they were
  refused_all : (o : FirstFault) (r : Refusal) → o ≡ Err r → first_of rules ≡ Err r
      → AllPromised o tree_buffer sheet_buffer
  unfolding tree_left sheet_left
  refused_all o r q e = rw (q, e) (refl, (refl, (refl, tt)))

  abbrev short : FirstFault
  short = short_buffers state (length tree_buffer) (length sheet_buffer)

  -- the first fault: that of the pair, or else 31
  fault_is : (f : FirstFault) → first_of (pair_rules state tree_store sheet_store) ≡ f
      → first_of rules ≡ f or_else first_of (short ∷ [])
  fault_is f e =
      first_of_append (pair_rules state tree_store sheet_store) (short ∷ [])
      ∙ ap (λ (g : FirstFault). g or_else first_of (short ∷ [])) e

  module _ (found : Result Counts Refusal) (e : found ≡ pair_standing state tree_store sheet_store) where
    -- refused by the judging of the pair
    pub refused_by_pair : (r : Refusal) → found ≡ Err r → (o : FirstFault) → o ≡ Err r
        → AllPromised o tree_buffer sheet_buffer
    unfolding pair_standing
    refused_by_pair r q o p = refused_all o r p (fault_is (Err r) (refused_found _ _ r (sym e ∙ q)))

    module _ (counts : Counts) (q : found ≡ Ok counts) where
      ready : pair_standing state tree_store sheet_store ≡ Ok counts
      ready = sym e ∙ q

      pair_absent : first_of (pair_rules state tree_store sheet_store) ≡ Ok tt
      unfolding pair_standing
      pair_absent = (accepted_absent _ _ counts ready).0

      abbrev enough : Bool
      enough = leb state.tree_len (length tree_buffer) && leb state.sheet_len (length sheet_buffer)

      -- refused by 31
      pub refused_by_room : enough ≡ false → (q : Refusal) → q ≡ refusal ShortMirror 0
          → AllPromised (Err q) tree_buffer sheet_buffer
      refused_by_room lacks q p =
          refused_all _ _ (ap Err p)
          (fault_is (Ok tt) pair_absent
          ∙ ap (λ b. first_of (unless b ShortMirror 0 ∷ [])) lacks)

      module _ (yes_enough : enough ≡ true) where
        room : (state.tree_len ≤ length tree_buffer) × (state.sheet_len ≤ length sheet_buffer)
        room =
            let both = (and-eq-true_iff (leb state.tree_len (length tree_buffer)) _).0 yes_enough in
            (leb-true _ _ both.0, leb-true _ _ both.1)

        abbrev pair : ReadyPair state tree_store sheet_store 0 1 counts
        pair = held state tree_store sheet_store counts ready

        -- what the writing of each file asks
        pub tree_asked : TreeAsked tree counts.nodes tree_buffer
        tree_asked = record {
          well_formed = pair.pair.tree_well_formed;
          nodes_is = ap (λ (c : Counts). c.nodes) pair.counts_is;
          room = rw (tree_length state tree_store sheet_store counts ready) room.0;
        }

        pub sheet_asked : SheetAsked sheet counts.events sheet_buffer
        sheet_asked = record {
          well_formed = pair.pair.sheet_well_formed;
          events_is = ap (λ (c : Counts). c.events) pair.counts_is ∙ sym pair.pair.same_events;
          room = rw (sheet_length state tree_store sheet_store counts ready) room.1;
        }

        none_broken : first_of rules ≡ Ok tt
        none_broken =
            fault_is (Ok tt) pair_absent ∙ ap (λ b. first_of (unless b ShortMirror 0 ∷ [])) yes_enough

        -- written
        pub dual_all : (tree_after : List ℕ) → tree_after ≡ dual_tree tree ++ drop (length tree) tree_buffer
            → (sheet_after : List ℕ) → sheet_after ≡ complement_sheet sheet ++ drop (length sheet) sheet_buffer
            → AllPromised (Ok tt) tree_after sheet_after
        unfolding tree_left sheet_left
        dual_all tree_after te sheet_after se =
            let tree_same = tree_long tree pair.pair.tree_well_formed.header in
            let sheet_same = sheet_long sheet pair.pair.sheet_well_formed.header in
            rw none_broken (
              refl,
              (
                te ∙ ap (λ n. dual_tree tree ++ drop n tree_buffer) (sym tree_same),
                (
                  se ∙ ap (λ n. complement_sheet sheet ++ drop n sheet_buffer) (sym sheet_same),
                  law_kept state tree_store sheet_store counts ready tree_after sheet_after _ _ te se,
                ),
              ),
            )
