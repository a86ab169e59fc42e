-- The tree of a node holds no event twice, and only events of the table; the root's tree holds them all. Each of these
-- is the law `worth_at_most` or `root_worth` at some v.
use Prim.Native.Nat.{ℕ, zero, suc, ◌+◌, ◌≤◌, ◌<◌}
use mathlib.Core.Path.{◌≡◌, sym, ◌∙◌}
use mathlib.Core.Logic.{◌≢◌, ◌⊎◌, inl, inr}
use native.Mathlib.Nat.{eq-or-lt_of_le, le_trans}
use native.Mathlib.Omega.{arith}
use native.Mathlib.Decide.{dec_lt}
use lib.Dec.{T}
use lib.ListN.{length}
use borrow.Author.Tests.{ne_eqb}
use Rattle.theory.specs.FaultTree.{Tree, events, all_events, contains, beneath, Each}
use Rattle.theory.specs.NodeTable.{Node, event, joint, Table, inputs, build, tree_of, link_count, event_count}
use Rattle.theory.specs.NodeTable.{HasLink, Owns, Numbered, Ranked, LinkedOnce, OthersLinked}
use Rattle.theory.proofs.Missing.{eqb_same}
use Rattle.theory.proofs.Sums.{summed, summed_append, summed_ones, sum, sum_ones, sum_zeros, sum_one_term}
use Rattle.theory.proofs.Sums.{term_at_most_sum}
use Rattle.theory.proofs.LinkedSums.{Linked, NotLinked, linked_or_not, not_linked, not_linked_elsewhere, not_linked_at}
use Rattle.theory.proofs.Distinct.{Distinct, is, multiplicity, at_most_once_distinct, contained_counted}
use Rattle.theory.proofs.Distinct.{counted_contained, distinct_each_once}
use Rattle.theory.proofs.Each.{each_of_contained}
use Rattle.theory.proofs.TreeOf.{tree_unfolds}
use Rattle.theory.proofs.Counting.{worth, Owner, gate_of, not_linked_worth}

-- a number below n stands once among the numbers below n
pub below_once : (e n : ℕ) → e < n → sum n (is e) ≡ 1
below_once e n l = sum_one_term (is e) n e l (λ i m d. rw (ne_eqb e i (λ q. d (sym q)))) ∙ rw (eqb_same e)

-- a number not below n stands never among them
pub above_never : (e n : ℕ) → n ≤ e → sum n (is e) ≡ 0
above_never e n h = sum_zeros (is e) n (λ i l. rw (ne_eqb e i (omega arith)))

-- a gate's input is worth at most what all its inputs are
input_worth : (v : ℕ → ℕ) (tree : ℕ → Tree) (link : ℕ → ℕ) (a n j : ℕ) → a ≤ j → j ≤ a + n →
    worth v (tree (link j)) ≤ summed v (all_events (inputs tree link a n))
input_worth v tree link a zero j l u = let same : j ≡ a = omega arith in rw same (omega arith)
input_worth v tree link a (suc n) j l u =
    rw summed_append (go (eq-or-lt_of_le l) (λ k. input_worth v tree link (suc a) n j k (omega arith)))
  where
    go : (a ≡ j) ⊎ (a < j) → (a < j → worth v (tree (link j)) ≤ summed v (all_events (inputs tree link (suc a) n))) →
        worth v (tree (link j)) ≤ worth v (tree (link a)) + summed v (all_events (inputs tree link (suc a) n))
    go (inl q) later = rw q (omega arith)
    go (inr k) later = omega (arith, later k)

-- a node's input is worth at most what the node is
linked_worth : (v : ℕ → ℕ) (tree : ℕ → Tree) (link : ℕ → ℕ) (node : Node) (j : ℕ) → HasLink node j →
    worth v (tree (link j)) ≤ worth v (build tree link node)
linked_worth v tree link (event e) j h = absurd h
linked_worth v tree link (joint k a n) j h = input_worth v tree link a n j h.0 h.1

module _ (table : Table) (rank : ℕ → ℕ) (ranked : Ranked table rank) (numbered : Numbered table)
    (once : LinkedOnce table) where
  -- an input of a node of the table is worth at most what the node is
  owned_worth : (v : ℕ → ℕ) (i j : ℕ) → i < table.size → Owns table i j →
      worth v (tree_of table (table.link j)) ≤ worth v (tree_of table i)
  owned_worth v i j l o =
      rw (tree_unfolds table rank ranked i l) (linked_worth v (tree_of table) table.link (table.node i) j o)

  -- a node that no link names is worth at most all basic events, each once
  not_linked_at_most : (v : ℕ → ℕ) (i : ℕ) → i < table.size → NotLinked table.link (link_count table) i →
      worth v (tree_of table i) ≤ sum (event_count table) v
  not_linked_at_most v i l h = omega (
    arith,
    term_at_most_sum (not_linked table.link (link_count table) (λ m. worth v (tree_of table m))) table.size i l,
    not_linked_elsewhere table.link (link_count table) (λ m. worth v (tree_of table m)) i h,
    not_linked_worth table rank ranked numbered once v,
  )

  -- so is every node with a rank at most n below the number of nodes: its gate is worth no less and has a higher rank
  worth_at_most_within : (v : ℕ → ℕ) (n i : ℕ) → i < table.size → table.size ≤ rank i + n →
      worth v (tree_of table i) ≤ sum (event_count table) v
  worth_at_most_within v zero i l h = absurd (omega (arith, ranked.rank_below i l))
  worth_at_most_within v (suc n) i l h =
      go (linked_or_not table.link (link_count table) i) (worth_at_most_within v n)
    where
      go : Linked table.link (link_count table) i ⊎ NotLinked table.link (link_count table) i →
          ((m : ℕ) → m < table.size → table.size ≤ rank m + n →
          worth v (tree_of table m) ≤ sum (event_count table) v) →
          worth v (tree_of table i) ≤ sum (event_count table) v
      go (inr none) higher = not_linked_at_most v i l none
      go (inl (j, k, q)) higher = by_gate (gate_of table numbered j k)
        where
          by_gate : Owner table table.size j → worth v (tree_of table i) ≤ sum (event_count table) v
          by_gate (m, inside, owns) =
              let falls : rank i < rank m = rw q at (ranked.rank_falls m j inside owns) in
              le_trans (rw q at (owned_worth v m j inside owns)) (higher m inside (omega arith))

  -- every node is worth at most all basic events, each once
  pub worth_at_most : (v : ℕ → ℕ) (i : ℕ) → i < table.size → worth v (tree_of table i) ≤ sum (event_count table) v
  worth_at_most v i l = worth_at_most_within v table.size i l (omega arith)

  -- the tree of a node holds only events of the table
  pub events_below : (i : ℕ) → i < table.size → (e : ℕ) → T (contains e (events (tree_of table i))) →
      e < event_count table
  events_below i l e t = go (dec_lt e (event_count table))
    where
      go : Dec (e < event_count table) → e < event_count table
      go (yes h) = h
      go (no h) = absurd (omega (
        arith,
        worth_at_most (is e) i l,
        above_never e (event_count table) (omega arith),
        contained_counted e (events (tree_of table i)) t,
      ))

  -- the same of each event in turn
  pub each_event_below : (i : ℕ) → i < table.size → Each (λ e. e < event_count table) (events (tree_of table i))
  each_event_below i l = each_of_contained (λ e. e < event_count table) (events (tree_of table i)) (events_below i l)

  -- the tree of a node holds no event twice
  pub events_distinct : (i : ℕ) → i < table.size → Distinct (events (tree_of table i))
  events_distinct i l = at_most_once_distinct (events (tree_of table i)) (λ e. go e (dec_lt e (event_count table)))
    where
      go : (e : ℕ) → Dec (e < event_count table) → multiplicity e (events (tree_of table i)) ≤ 1
      go e (yes h) = omega (arith, worth_at_most (is e) i l, below_once e (event_count table) h)
      go e (no h) = omega (arith, worth_at_most (is e) i l, above_never e (event_count table) (omega arith))

  -- so the events beneath a node are the events of its tree
  pub beneath_is_events : (i : ℕ) → i < table.size → beneath (tree_of table i) ≡ events (tree_of table i)
  beneath_is_events i l = distinct_each_once (events (tree_of table i)) (events_distinct i l)

  -- there are no more of them than basic events in the table
  pub events_few : (i : ℕ) → i < table.size → length (events (tree_of table i)) ≤ event_count table
  events_few i l = omega (
    arith,
    worth_at_most (λ e. 1) i l,
    summed_ones (events (tree_of table i)),
    sum_ones (event_count table),
  )

  module _ (root : ℕ) (others : OthersLinked table root) where
    -- the root is worth all basic events, each once
    pub root_worth : (v : ℕ → ℕ) → worth v (tree_of table root) ≡ sum (event_count table) v
    root_worth v = omega (
      arith,
      sum_one_term rest table.size root others.root_inside linked_nothing,
      not_linked_elsewhere table.link (link_count table) nodes root others.root_not_linked,
      not_linked_worth table rank ranked numbered once v,
    )
      where
        nodes : ℕ → ℕ
        nodes i = worth v (tree_of table i)

        rest : ℕ → ℕ
        rest = not_linked table.link (link_count table) nodes

        linked_nothing : (i : ℕ) → i < table.size → i ≢ root → rest i ≡ 0
        linked_nothing i l d = not_linked_at table.link (link_count table) nodes i (others.linked i l d)

    -- the root's tree holds as many events as the table
    pub root_length : length (events (tree_of table root)) ≡ event_count table
    root_length = sym (summed_ones (events (tree_of table root))) ∙ root_worth (λ e. 1) ∙ sum_ones (event_count table)

    -- and each of them
    pub root_has_all : (e : ℕ) → e < event_count table → T (contains e (events (tree_of table root)))
    root_has_all e l = counted_contained e (events (tree_of table root))
        (omega (arith, root_worth (is e), below_once e (event_count table) l))
