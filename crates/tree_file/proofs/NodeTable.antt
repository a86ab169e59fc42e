-- The table of a well-formed file is numbered in the order of its nodes, its links lead to lower ranks, no node is
-- linked twice, and its last node is the root: what the theory of fault trees asks of a table.
use Prim.Native.Nat.{ℕ, zero, suc, ◌+◌, ◌-◌, ◌≤◌, ◌<◌}
use mathlib.Core.Path.{◌≡◌, refl, sym, ap₂, ◌∙◌}
use mathlib.Core.Bool.{cond}
use mathlib.Core.List.{List}
use native.Mathlib.Nat.{le_refl}
use native.Mathlib.Omega.{arith}
use borrow.Author.Tests.{eq-eqb, ne_eqb}
use Rattle.theory.specs.FaultTree.{GateKind}
use Rattle.theory.specs.NodeTable.{event, joint, links_of, events_of, links_before, HasLink, Numbered}
use Rattle.theory.specs.NodeTable.{Ranked, LinkedOnce, OthersLinked}
use Rattle.theory.specs.NodeTable as table
use Rattle.theory.proofs.LinksBelow.{LinksBelow, last_is_root, ranked_by_number}
use Rattle.tree_file.specs.Format.{field_a, field_b, kind, link, link_count, node_count}
use Rattle.tree_file.specs.Tallies.{event_count, events_before, input_count, inputs_before, is_basic}
use Rattle.tree_file.specs.WellFormed.{WellFormed}
use Rattle.tree_file.specs.NodeTable.{node_as, node_of, rank, table_of}
use Rattle.tree_file.specs.declared.node.Node.TheVariants.{Gate}
use Rattle.tree_file.proofs.Tallies.{basic_inputs, gate_inputs}
use Rattle.tree_file.proofs.Nodes.{NodeCase, gate_of, is_event, is_gate, node_case}

-- The table's count of basic events before a node is the file's.
events_agree : (file : List ℕ) (i : ℕ) → table.events_before (table_of file) i ≡ events_before file i
unfolding events_before
events_agree file zero = refl
events_agree file (suc i) = ap₂ ◌+◌ (events_agree file i) (go (node_case file i))
  where
    go : NodeCase file i → events_of (node_of file i) ≡ cond (is_basic file i) 1 0
    go (is_event z q) = rw (q, eq-eqb (kind file i) 0 z)
    go (is_gate g q) = rw (q, ne_eqb (kind file i) 0 (λ z. omega arith))

module _ (file : List ℕ) (w : WellFormed file) where
  -- The table's count of links before a node is the file's sum of b.
  links_agree : (i : ℕ) → i ≤ node_count file → links_before (table_of file) i ≡ inputs_before file i
  unfolding inputs_before
  links_agree zero l = refl
  links_agree (suc i) l = ap₂ ◌+◌ (links_agree i (omega arith)) (go (node_case file i))
    where
      go : NodeCase file i → links_of (node_of file i) ≡ input_count file i
      go (is_event z q) = rw (q, basic_inputs file i z)
      go (is_gate g q) = rw (q, gate_inputs file i g) (omega (arith, (w.node i l).gate_least g))

  pub table_numbered : Numbered (table_of file)
  table_numbered = record {
    event_number = λ i e l q. number i e l q (node_case file i);
    first_link = λ i k a n l q. first i k a n l q (node_case file i);
  }
    where
      number : (i e : ℕ) → i < node_count file → node_of file i ≡ event e → NodeCase file i
          → e ≡ table.events_before (table_of file) i
      number i e l q (is_event z r) =
          let same : e ≡ field_a file i = cc in
          same ∙ (w.node i l).event_number z ∙ sym (events_agree file i)
      number i e l q (is_gate g r) = cc

      first : (i : ℕ) (k : GateKind) (a n : ℕ) → i < node_count file → node_of file i ≡ joint k a n
          → NodeCase file i → a ≡ links_before (table_of file) i
      first i k a n l q (is_event z r) = cc
      first i k a n l q (is_gate g r) =
          let same : a ≡ field_a file i = cc in
          same ∙ (w.node i l).gate_first g ∙ sym (links_agree i (omega arith))

  links_below : LinksBelow (table_of file)
  links_below i j l o = go (node_case file i)
    where
      go : NodeCase file i → link file j < i
      go (is_event z q) = absurd (rw q at o)
      go (is_gate g q) =
          let owned : HasLink (node_as (Gate (gate_of file i))) j = rw q at o in
          let least : 1 ≤ field_b file i = (w.node i l).gate_least g in
          let place : field_a file i + (j - field_a file i) ≡ j = omega arith in
          let counted : j - field_a file i < input_count file i = omega (arith, gate_inputs file i g) in
          rw place at (w.below i (j - field_a file i) l counted)

  pub table_ranked : Ranked (table_of file) (rank file)
  table_ranked = ranked_by_number (table_of file) links_below

  -- The table has one link fewer than nodes.
  table_links : table.link_count (table_of file) ≡ link_count file
  table_links = links_agree (node_count file) (le_refl (node_count file)) ∙ w.all_inputs

  pub table_linked_once : LinkedOnce (table_of file)
  table_linked_once i j l h = w.once i j l (rw (← table_links) h)

  pub table_rooted : OthersLinked (table_of file) (node_count file - 1)
  table_rooted =
      last_is_root (table_of file) links_below table_numbered table_linked_once (node_count file - 1)
      (omega (arith, w.header.nodes_least)) table_links

  -- E is the number of basic records.
  pub table_events : table.event_count (table_of file) ≡ event_count file
  table_events = events_agree file (node_count file)
