-- The judging of the held tree before its sets are counted, rule by rule, and what a tree is that is ready.
use Prim.Native.Nat.{ℕ, ◌≤◌, ◌<◌}
use mathlib.Core.Path.{◌≡◌, sym, ap, ◌∙◌}
use mathlib.Core.List.{List, [], ◌∷◌}
use native.Mathlib.Omega.{arith}
use lib.ListN.{length}
use borrow.Author.Tests.{le-leb, lt-leb, leb-true}
use Rattle.refusals.specs.FirstFault.{FirstFault, ◌or_else◌, first_of}
use Rattle.refusals.specs.Order.{refusal}
use Rattle.refusals.specs.declared.rule.Rule.TheVariants.{ManyEvents}
use Rattle.refusals.specs.declared.refusal.Refusal.{Refusal}
use Rattle.std.specs.Prelude.{Result, Ok, Err}
use Rattle.refusals.proofs.FirstFault.{first_of_absent, first_of_append, unless_holds}
use Rattle.tree_judging.specs.Judged.{fault_of as tree_fault, counts_of as tree_counts}
use Rattle.tree_judging.specs.declared.judgement.Counts.{Counts}
use Rattle.tree_judging.proofs.Accepted.{accepted_well_formed}
use Rattle.held_pair.specs.Standing.{held_tree, tree_rules, tree_standing}
use Rattle.tree_file.specs.NodeTable.{root}
use Rattle.held_files.specs.declared.state.State.{State}
use Rattle.refusals.proofs.FirstFault.{accepted_absent, refused_found}
use Rattle.held_pair.proofs.Ready.{unchanged}
use Rattle.node_sets.specs.Numbers.{most_events}
use Rattle.node_sets.specs.Requirements.{Small}
use Rattle.cut_sets.specs.Judged.{count_rules, count_standing, many_events}

module _ (state : State) (tree_store : List ℕ) where
  -- the tree file held
  abbrev tree : List ℕ
  tree = held_tree state tree_store

  -- the first fault: that of the tree, or else 26
  fault_is : (f : FirstFault) → first_of (tree_rules state tree_store) ≡ f
      → first_of (count_rules state tree_store) ≡ f or_else first_of (many_events tree ∷ [])
  fault_is f e =
      first_of_append (tree_rules state tree_store) (many_events tree ∷ [])
      ∙ ap (λ (f : FirstFault). f or_else first_of (many_events tree ∷ [])) e

  module _ (found : Result Counts Refusal) (e : found ≡ tree_standing state tree_store) where
    -- 21 and 23
    pub tree_refused : (r : Refusal) → found ≡ Err r
        → Err r ≡ count_standing state tree_store
    unfolding tree_standing count_standing
    tree_refused r q = rw (fault_is (Err r) (refused_found _ _ r (sym e ∙ q)))

    module _ (counts : Counts) (q : found ≡ Ok counts) where
      -- the tree is without a fault, and the counts are its own
      ready_own : (first_of (tree_rules state tree_store) ≡ Ok tt) × (counts ≡ tree_counts tree)
      unfolding tree_standing
      ready_own = accepted_absent _ _ counts (sym e ∙ q)

      -- ready with at most 64 events
      pub events_few : counts.events ≤ most_events
          → Ok counts ≡ count_standing state tree_store
      unfolding count_standing
      events_few l =
          let few = le-leb (tree_counts tree).events most_events (rw ready_own.1 at l) in
          rw (fault_is (Ok tt) ready_own.0, few) (ap Ok ready_own.1)

      -- 26
      pub events_many : (r : Refusal) → r ≡ refusal ManyEvents 0 → most_events < counts.events
          → Err r ≡ count_standing state tree_store
      unfolding count_standing
      events_many r re l =
          let many = lt-leb (tree_counts tree).events most_events (rw ready_own.1 at l) in
          rw (re, fault_is (Ok tt) ready_own.0, many)

-- A tree whose sets can be counted: it is inside its store, small, and the counts are its own.
pub record ReadyTree (state : State) (tree_store : List ℕ) (counts : Counts) : Type 0 where
  pub inside : state.tree_len ≤ length tree_store
  pub small : Small (held_tree state tree_store) (root (held_tree state tree_store))
  pub counts_is : counts ≡ tree_counts (held_tree state tree_store)

module _ (state : State) (tree_store : List ℕ) (counts : Counts)
    (e : count_standing state tree_store ≡ Ok counts) where
  pub ready_tree : ReadyTree state tree_store counts
  unfolding count_standing
  ready_tree =
      let own = accepted_absent _ _ counts e in
      let absent = first_of_absent (count_rules state tree_store) own.0 in
      let file = held_tree state tree_store in
      let kept = unchanged 0 tree_fault state.tree_len tree_store absent.1.0 in
      let formed = accepted_well_formed file (tree_counts file) (rw kept.1) in
      record {
        inside = kept.0;
        small = record {
          well_formed = formed;
          few_events = leb-true _ most_events (unless_holds _ _ _ absent.1.1.0);
          inside = omega (arith, formed.header.nodes_least);
        };
        counts_is = own.1;
      }
