-- What the two calls answer, by what the judging finds and what is counted.
use Prim.Native.Nat.{ℕ, ◌+◌, ◌-◌, ◌≤◌, ◌<◌}
use mathlib.Core.Path.{◌≡◌, refl, sym, ap, subst, ◌∙◌}
use mathlib.Core.List.{List, [], ◌∷◌}
use native.Mathlib.Omega.{arith}
use lib.ListN.{length, get_or, drop, length-drop}
use lib.Seq.{ext_get_or, get_or-drop}
use borrow.Author.Tests.{le-leb, lt-leb}
use Rattle.theory.specs.MinimalCutSets.{Enumerates}
use Rattle.theory.proofs.CutSetsEnumerated.{enumerates_same}
use Rattle.refusals.specs.FirstFault.{FirstFault, ◌or_else◌, first_of, judged_by}
use Rattle.refusals.specs.Order.{refusal}
use Rattle.refusals.specs.declared.rule.Rule.TheVariants.{ShortList}
use Rattle.refusals.specs.declared.refusal.Refusal.{Refusal}
use Rattle.std.specs.Prelude.{Result, Ok, Err}
use Rattle.refusals.proofs.FirstFault.{first_of_append, or_else_absent}
use Rattle.tree_file.specs.NodeTable.{fault_tree}
use Rattle.tree_judging.specs.declared.judgement.Counts.{Counts}
use Rattle.held_pair.specs.Standing.{held_tree}
use Rattle.tree_file.specs.NodeTable.{root}
use Rattle.held_files.specs.declared.state.State.{State}
use Rattle.refusals.proofs.FirstFault.{accepted_absent, refused_found}
use Rattle.cut_sets.specs.Judged.{count_outcome, count_rules, count_standing, list_outcome, list_rules}
use Rattle.cut_sets.specs.Judged.{root_tree, set_count, short_list}
use Rattle.cut_sets.specs.Listed.{SetsLeft, listed}
use Rattle.node_sets.specs.Requirements.{KeptFrom, Small, Written, node_sets}
use Rattle.node_sets.proofs.Enumerated.{node_sets_enumerated}
use Rattle.cut_sets.proofs.Judging.{ReadyTree, ready_tree}

-- what is kept place by place from n on is kept as a whole
kept_rest : (before after : List ℕ) (n : ℕ) → KeptFrom n before after → length after ≡ length before
    → drop n after ≡ drop n before
kept_rest before after n kept same =
    ext_get_or 0 (drop n after) (drop n before)
    (rw (length-drop n after, length-drop n before) (ap (λ x. x - n) same)) each
  where
    each : (p : ℕ) → p < length (drop n after) → get_or (drop n after) p 0 ≡ get_or (drop n before) p 0
    each p l =
        rw (get_or-drop n after p 0, get_or-drop n before p 0)
        (kept (n + p) (omega arith) (omega (arith, length-drop n after)))

module _ (state : State) (tree_store : List ℕ) (found : Result Counts Refusal)
    (e : found ≡ count_standing state tree_store) where
  -- the tree file held
  abbrev tree : List ℕ
  tree = held_tree state tree_store

  -- the first fault of counting
  count_fault : (r : Refusal) → found ≡ Err r → first_of (count_rules state tree_store) ≡ Err r
  unfolding count_standing
  count_fault r q = refused_found _ _ r (sym e ∙ q)

  -- 21, 23 and 26 of counting
  pub count_refused : (r : Refusal) → found ≡ Err r → Err r ≡ count_outcome state tree_store
  unfolding count_outcome
  count_refused r q = rw (count_fault r q)

  -- the first fault of listing: that of counting, or else 27
  list_fault : (room : ℕ) (f : FirstFault) → first_of (count_rules state tree_store) ≡ f
      → first_of (list_rules state tree_store room) ≡ f or_else first_of (short_list (set_count tree) room ∷ [])
  list_fault room f q =
      first_of_append (count_rules state tree_store) (short_list (set_count tree) room ∷ [])
      ∙ ap (λ (f : FirstFault). f or_else first_of (short_list (set_count tree) room ∷ [])) q

  -- 21, 23 and 26 of listing
  pub list_refused : (room : ℕ) (r : Refusal) → found ≡ Err r
      → Err r ≡ list_outcome state tree_store room
  unfolding list_outcome
  list_refused room r q = rw (list_fault room (Err r) (count_fault r q))

  module _ (counts : Counts) (q : found ≡ Ok counts) where
    -- what a tree that is ready is
    pub ready : ReadyTree state tree_store counts
    ready = ready_tree state tree_store counts (sym e ∙ q)

    absent : first_of (count_rules state tree_store) ≡ Ok tt
    unfolding count_standing
    absent = (accepted_absent _ _ counts (sym e ∙ q)).0

    -- the root by the counts of the judging
    pub root_is : counts.nodes - 1 ≡ root tree
    root_is = ap (λ (c : Counts). c.nodes - 1) ready.counts_is

    pub root_small : Small tree (counts.nodes - 1)
    root_small = rw root_is ready.small

    pub nodes_positive : 1 ≤ counts.nodes
    nodes_positive = rw ready.counts_is ready.small.well_formed.header.nodes_least

    -- counted
    pub count_answered : (n : ℕ) → n ≡ (node_sets tree (counts.nodes - 1)).count
        → Ok n ≡ count_outcome state tree_store
    unfolding count_outcome
    count_answered n t = rw (absent) (ap Ok (t ∙ ap (λ i. (node_sets tree i).count) root_is))

    -- listed, or refused by 27
    pub list_answered : (room : ℕ) (o : Result ℕ Refusal)
        → o ≡ judged_by (short_list (set_count tree) room) (set_count tree) → o ≡ list_outcome state tree_store room
    unfolding list_outcome
    list_answered room o t =
        t ∙ ap (λ f. judged_by f (set_count tree))
        (sym (list_fault room (Ok tt) absent ∙ or_else_absent (short_list (set_count tree) room)))

module _ {tree : List ℕ} {i : ℕ} (small : Small tree i) (at_root : i ≡ root tree) {count : ℕ}
    (counted : count ≡ (node_sets tree i).count) where
  -- the count is that of the root's sets
  root_count : count ≡ set_count tree
  root_count = counted ∙ ap (λ i. (node_sets tree i).count) at_root

  -- what is written where there is room
  pub list_written : (before after : List ℕ) → count ≤ length before → Written (node_sets tree i) before after
      → length after ≡ length before
      → (Ok count ≡ judged_by (short_list (set_count tree) (length before)) (set_count tree))
      × SetsLeft (Ok count) tree before after
  list_written before after l w n = (
    rw (← root_count, le-leb count (length before) l),
    record {
      sets = enumerated;
      rest = kept_rest before after count (rw counted w.rest) n;
      room = l;
      length_kept = n;
    },
  )
    where
      node_enumerated : Enumerates (fault_tree tree i) (listed count after)
      node_enumerated =
          enumerates_same (fault_tree tree i) (node_sets tree i) (listed count after) counted
          w.each
          (node_sets_enumerated tree small.well_formed i small.inside)

      enumerated : Enumerates (root_tree tree) (listed count after)
      enumerated = subst (λ (n : ℕ). Enumerates (fault_tree tree n) (listed count after)) at_root node_enumerated

  -- 27
  pub list_short : (q : Refusal) → q ≡ refusal ShortList 0 → (before : List ℕ) → length before < count
      → (Err q ≡ judged_by (short_list (set_count tree) (length before)) (set_count tree))
      × SetsLeft (Err q) tree before before
  list_short q e before l = (rw (e, ← root_count, lt-leb count (length before) l), refl)
