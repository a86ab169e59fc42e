-- The dual tree file is an accepted one, with the counts of the held file, and its table is the dual one.
use Prim.Native.Nat.{ℕ, zero, suc, ◌+◌, ◌-◌, ◌*◌, ◌≤◌, ◌<◌}
use mathlib.Core.Path.{◌≡◌, refl, sym, ap, ap₂, ◌∙◌}
use mathlib.Core.Bool.{cond}
use mathlib.Core.List.{List}
use native.Mathlib.Decide.{ℕ_discrete}
use native.Mathlib.Omega.{arith}
use lib.Dec.{lit<}
use Rattle.theory.specs.NodeTable.{Owns, HasLink}
use Rattle.theory.specs.Dual.{dual_node, DualTable}
use Rattle.fields.specs.Fields.{field16}
use Rattle.fields.proofs.Alike.{field16_alike}
use Rattle.std.specs.Prelude.{Ok}
use Rattle.tree_file.specs.Format.{node_count, link_count, kind, field_a, link}
use Rattle.tree_file.specs.Tallies.{is_basic, input_count, events_before, inputs_before, event_count}
use Rattle.tree_judging.specs.Judged.{fault_of, counts_of}
use Rattle.tree_file.specs.WellFormed.{WellFormed, WellFormedHeader, WellFormedRecord}
use Rattle.tree_file.specs.NodeTable.{read_node, node_as, node_of, table_of}
use Rattle.tree_file.specs.declared.node.Node.TheVariants.{Gate}
use Rattle.tree_file.proofs.Tallies.{gate_inputs, with_input}
use Rattle.tree_judging.proofs.Accepted.{well_formed_absent}
use Rattle.tree_file.proofs.Nodes.{gate_links_end, NodeCase, gate_of, is_event, is_gate, node_case}
use Rattle.dual_files.specs.Tree.{DualTree}

module _ (tree after : List ℕ) (m : DualTree tree after) where
  same_field : (p : ℕ) → p + 1 < 9 → field16 after p ≡ field16 tree p
  same_field p l = field16_alike after p tree p (λ j k. m.header_kept (p + j) (omega arith))

  pub nodes_kept : node_count after ≡ node_count tree
  nodes_kept = same_field 7 (lit< tt)

  same_links : link_count after ≡ link_count tree
  same_links = ap (λ n. n - 1) nodes_kept

  module _ (formed : WellFormed tree) where
    -- what a node is, and what it becomes
    pub data Turned (i : ℕ) : Type 0 where
      event_stays : kind tree i ≡ 0 → kind after i ≡ 0 → Turned i
      and_or : kind tree i ≡ 1 → kind after i ≡ 2 → Turned i
      or_and : kind tree i ≡ 2 → kind after i ≡ 1 → Turned i

    turned : (i : ℕ) → i < node_count tree → Turned i
    turned i l = go (ℕ_discrete (kind tree i) 0) (ℕ_discrete (kind tree i) 1)
      where
        go : Dec (kind tree i ≡ 0) → Dec (kind tree i ≡ 1) → Turned i
        go (yes e) d = event_stays e (m.event_kept i l e)
        go (no e) (yes a) = and_or a (m.and_turned i l a)
        go (no e) (no a) =
            let o : kind tree i ≡ 2 = omega (arith, (formed.node i l).known_kind) in or_and o (m.or_turned i l o)

    same_basic : (i : ℕ) → i < node_count tree → is_basic after i ≡ is_basic tree i
    same_basic i l = go (turned i l)
      where
        go : Turned i → is_basic after i ≡ is_basic tree i
        go (event_stays e f) = rw (e, f) refl
        go (and_or e f) = rw (e, f) refl
        go (or_and e f) = rw (e, f) refl

    same_inputs : (i : ℕ) → i < node_count tree → input_count after i ≡ input_count tree i
    unfolding input_count
    same_inputs i l = rw (same_basic i l, m.b_kept i l) refl

    same_events_before : (i : ℕ) → i ≤ node_count tree → events_before after i ≡ events_before tree i
    unfolding events_before
    same_events_before zero l = refl
    same_events_before (suc i) l =
        ap₂ ◌+◌ (same_events_before i (omega arith)) (ap (λ b. cond b 1 0) (same_basic i l))

    same_inputs_before : (i : ℕ) → i ≤ node_count tree → inputs_before after i ≡ inputs_before tree i
    unfolding inputs_before
    same_inputs_before zero l = refl
    same_inputs_before (suc i) l = ap₂ ◌+◌ (same_inputs_before i (omega arith)) (same_inputs i l)

    -- a kind that is one of a gate was one before
    gate_before : (i : ℕ) → i < node_count tree → 0 < kind after i → 0 < kind tree i
    gate_before i l g = go (turned i l)
      where
        go : Turned i → 0 < kind tree i
        go (event_stays e f) = absurd (omega arith)
        go (and_or e f) = omega arith
        go (or_and e f) = omega arith

    event_before : (i : ℕ) → i < node_count tree → kind after i ≡ 0 → kind tree i ≡ 0
    event_before i l z = go (turned i l)
      where
        go : Turned i → kind tree i ≡ 0
        go (event_stays e f) = e
        go (and_or e f) = absurd (omega arith)
        go (or_and e f) = absurd (omega arith)

    known_after : (i : ℕ) → i < node_count tree → kind after i ≤ 2
    known_after i l = go (turned i l)
      where
        go : Turned i → kind after i ≤ 2
        go (event_stays e f) = omega arith
        go (and_or e f) = omega arith
        go (or_and e f) = omega arith

    record_formed : (i : ℕ) → i < node_count tree → WellFormedRecord after i
    record_formed i l =
        let held = formed.node i l in
        let events = same_events_before i (omega arith) in
        let inputs = same_inputs_before i (omega arith) in
        record {
          known_kind = known_after i l;
          event_number = λ z. m.a_kept i l ∙ held.event_number (event_before i l z) ∙ sym events;
          event_inputs = λ z. m.b_kept i l ∙ held.event_inputs (event_before i l z);
          gate_least = λ g. rw (m.b_kept i l) (held.gate_least (gate_before i l g));
          gate_most = λ g. rw (m.b_kept i l) (held.gate_most (gate_before i l g));
          gate_first = λ g. m.a_kept i l ∙ held.gate_first (gate_before i l g) ∙ sym inputs;
        }

    -- a gate's links lie among the links
    link_among : (g k : ℕ) → g < node_count tree → k < input_count tree g → field_a tree g + k < link_count tree
    link_among g k l h =
        let gate = with_input tree g k h in
        omega (arith, gate_links_end tree formed g l gate, gate_inputs tree g gate)

    header_formed : WellFormedHeader after
    header_formed = record {
      letters =
          rw (m.header_kept 0 (lit< tt), m.header_kept 1 (lit< tt), m.header_kept 2 (lit< tt))
          formed.header.letters;
      version_value = same_field 3 (lit< tt) ∙ formed.header.version_value;
      nodes_least = rw nodes_kept formed.header.nodes_least;
      nodes_most = rw nodes_kept formed.header.nodes_most;
      length_value =
          m.length_kept
          ∙ formed.header.length_value
          ∙ ap (λ n. 9 + 5 * n + 2 * (n - 1)) (sym nodes_kept);
    }

    -- the dual file is well formed,
    pub tree_well_formed : WellFormed after
    tree_well_formed = record {
      header = header_formed;
      node = λ i l. record_formed i (rw nodes_kept at l);
      all_inputs =
          ap (inputs_before after) nodes_kept
          ∙ same_inputs_before (node_count tree) (omega arith)
          ∙ formed.all_inputs
          ∙ sym same_links;
      below = λ g k l h.
          let inside : g < node_count tree = rw nodes_kept at l in
          let input : k < input_count tree g = rw (same_inputs g inside) at h in
          let same : link after (field_a after g + k) ≡ link tree (field_a tree g + k) =
          ap (λ a. link after (a + k)) (m.a_kept g inside)
          ∙ m.link_kept (field_a tree g + k) (link_among g k inside input) in
          rw same (formed.below g k inside input);
      once = λ i j l h e.
          let inside : j < link_count tree = rw same_links at h in
          formed.once i j l inside
          (sym (m.link_kept i (omega arith)) ∙ e ∙ m.link_kept j inside);
    }

    -- and has the counts of the held one
    pub tree_counts_kept : counts_of after ≡ counts_of tree
    tree_counts_kept =
        let events : event_count after ≡ event_count tree =
        ap (events_before after) nodes_kept ∙ same_events_before (node_count tree) (omega arith) in
        λ i. record { number = same_field 5 (lit< tt) i; nodes = nodes_kept i; events = events i }

    -- without a fault
    pub tree_unfaulted : fault_of after ≡ Ok tt
    tree_unfaulted = well_formed_absent after tree_well_formed

    -- a node is the dual of what it was
    node_dual : (i : ℕ) → i < node_count tree → node_of after i ≡ dual_node (node_of tree i)
    unfolding read_node
    node_dual i l = go (turned i l)
      where
        go : Turned i → node_of after i ≡ dual_node (node_of tree i)
        go (event_stays e f) = rw (e, f, m.a_kept i l) refl
        go (and_or e f) = rw (e, f, m.a_kept i l, m.b_kept i l) refl
        go (or_and e f) = rw (e, f, m.a_kept i l, m.b_kept i l) refl

    -- a gate's links are among the links
    owned_among : (i j : ℕ) → i < node_count tree → Owns (table_of tree) i j → j < link_count tree
    owned_among i j l o = go (node_case tree i)
      where
        go : NodeCase tree i → j < link_count tree
        go (is_event z q) = absurd (rw q at o)
        go (is_gate g q) =
            let owned : HasLink (node_as (Gate (gate_of tree i))) j = rw q at o in
            omega (arith, gate_links_end tree formed i l g, (formed.node i l).gate_least g)

    -- its table is the dual one
    pub tree_dual : DualTable (table_of tree) (table_of after)
    tree_dual = record {
      same_size = nodes_kept;
      each_dual = node_dual;
      same_link = λ i j l o. m.link_kept j (owned_among i j l o);
    }
