-- A node's sets by those of its inputs (what `node_family` of theory says of a well-formed tree file), the nodes that its
-- links name, and, of a small tree, that its count fits 64 bits.
use Rattle.std.proofs.Common.{ℕ, suc, ◌-◌, ◌^◌, ◌≤◌, ◌<◌, ◌≡◌, refl, ap, ◌∙◌, List, length, arith}
use native.Mathlib.Nat.{lt_of_lt_of_le}
use lib.Pow.{pow_mono}
use Rattle.theory.specs.FaultTree.{basic, events}
use Rattle.theory.specs.NodeTable.{HasLink, Owns}
use Rattle.theory.specs.MinimalCutSets.{Family}
use Rattle.theory.specs.CutSetFamily.{family, gate_family}
use Rattle.theory.proofs.CutSetCount.{count_fits}
use Rattle.theory.proofs.DistinctEvents.{events_few}
use Rattle.theory.proofs.NodeFamily.{family_by_links, node_family}
use Rattle.tree_file.specs.Format.{link, link_count, node_count}
use Rattle.tree_file.specs.NodeTable.{fault_tree, kind_as, node_as, rank, read_node, table_of}
use Rattle.tree_file.specs.WellFormed.{WellFormed}
use Rattle.tree_file.specs.declared.node.Gate.{Gate as GateNode}
use Rattle.tree_file.specs.declared.node.Node.{Node}
use Rattle.tree_file.specs.declared.node.Node.TheVariants.{Event, Gate}
use Rattle.tree_file.proofs.NodeTable.{table_events, table_linked_once, table_numbered, table_ranked}
use Rattle.tree_file.proofs.Nodes.{event_inside, inputs_least, links_inside}
use Rattle.node_sets.specs.Requirements.{Small, node_sets}
use Rattle.node_sets.proofs.LinkedSets.{Links, gate_inputs, linked_sets, links_end}

-- a basic event owns no link
pub event_owns : (tree : List ℕ) (i e j : ℕ) → read_node tree i ≡ Event e → Owns (table_of tree) i j → ⊥
event_owns tree i e j q o = rw q at o

module _ {tree : List ℕ} {i : ℕ} (w : WellFormed tree) (l : i < node_count tree) where
  -- a node's sets are those of its record
  by_record : node_sets tree i ≡ family_by_links (λ j. node_sets tree (link tree j)) (node_as (read_node tree i))
  by_record = node_family (table_of tree) (rank tree) (table_ranked tree w) i l

  -- a basic event has one set, of itself alone
  pub event_sets : {e : ℕ} → read_node tree i ≡ Event e → node_sets tree i ≡ family (basic e)
  event_sets q = by_record ∙ rw q

  module _ {g : GateNode} (q : read_node tree i ≡ Gate g) where
    least : 1 ≤ g.inputs
    least = inputs_least tree w i l g q

    -- a gate's sets are made of those of its inputs
    pub gate_sets : node_sets tree i ≡ gate_family (kind_as g.kind) (gate_inputs tree g)
    gate_sets =
        let counted : suc (g.inputs - 1) ≡ links_end g - g.first = omega (arith, least) in
        let sets : ℕ → Family = λ n. gate_family (kind_as g.kind) (linked_sets tree g.first n) in
        by_record ∙ rw q (ap sets counted)

    -- the links that it owns are those from its first on
    pub gate_owns : (j : ℕ) → Links g j → Owns (table_of tree) i j
    gate_owns j h = rw q (h.0, omega (arith, least))

    pub gate_owned : (j : ℕ) → Owns (table_of tree) i j → Links g j
    gate_owned j o =
        let has : HasLink (node_as (Gate g)) j = rw q at o in
        omega (arith, least)

    -- they are links of the tree
    pub gate_links : links_end g ≤ link_count tree
    gate_links = links_inside tree w i l g q

  module _ (j : ℕ) (o : Owns (table_of tree) i j) where
    -- a link that the node owns names a node of the tree, of a lower rank
    pub input_inside : link tree j < node_count tree
    input_inside = (table_ranked tree w).link_inside i j l o

    pub input_lower : rank tree (link tree j) < rank tree i
    input_lower = (table_ranked tree w).rank_falls i j l o

module _ {tree : List ℕ} {i : ℕ} (s : Small tree i) where
  -- a node of a small tree has fewer sets than 64 bits can count
  pub count_bound : (node_sets tree i).count < 2 ^ 64
  count_bound =
      let w = s.well_formed in
      let few : length (events (fault_tree tree i)) ≤ 64 =
      omega (
        arith,
        events_few (table_of tree) (rank tree) (table_ranked tree w) (table_numbered tree w)
            (table_linked_once tree w) i s.inside,
        table_events tree w,
        s.few_events,
      ) in
      lt_of_lt_of_le (count_fits (fault_tree tree i)) (pow_mono few)

  -- the number of a basic event is that of a bit
  pub event_few : {e : ℕ} → read_node tree i ≡ Event e → e < 64
  event_few {e} q = omega (arith, event_inside tree s.well_formed i s.inside e q, s.few_events)

  -- the links of a gate are few
  pub links_few : {g : GateNode} → read_node tree i ≡ Gate g → links_end g < 1024
  links_few q =
      let header = s.well_formed.header in
      omega (arith, gate_links s.well_formed s.inside q, header.nodes_least, header.nodes_most)

  module _ (j : ℕ) (o : Owns (table_of tree) i j) where
    -- a link of the node is one of the tree's
    pub link_inside : j < link_count tree
    link_inside = go (read_node tree i) refl
      where
        go : (x : Node) → read_node tree i ≡ x → j < link_count tree
        go (Event e) q = absurd (event_owns tree i e j q o)
        go (Gate g) q =
            omega (arith, gate_owned s.well_formed s.inside q j o, gate_links s.well_formed s.inside q)

    -- it names a node that has few events beneath too
    pub input_small : Small tree (link tree j)
    input_small = record {
      well_formed = s.well_formed;
      few_events = s.few_events;
      inside = input_inside s.well_formed s.inside j o;
    }
