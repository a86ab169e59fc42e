-- The nodes of a well-formed file as they are read, and the links of its gates.
use Prim.Native.Nat.{ℕ, suc, ◌+◌, ◌-◌, ◌*◌, ◌≤◌, ◌<◌}
use mathlib.Core.Path.{◌≡◌, ◌∙◌, ap}
use mathlib.Core.Logic.{⊎_elim}
use mathlib.Core.List.{List}
use native.Mathlib.Nat.{eq-zero-or-pos}
use native.Mathlib.Omega.{arith}
use lib.ListN.{length, take, drop, length-drop}
use borrow.Author.Tests.{eq-eqb, ne_eqb}
use Rattle.fields.specs.Fields.{field16}
use Rattle.fields.proofs.Parts.{field16_drop, part_from}
use Rattle.tree_file.specs.Format.{field_a, field_b, kind, link, link_at, link_count, linked, links_from}
use Rattle.tree_file.specs.Format.{max_inputs, node_count}
use Rattle.tree_file.specs.Tallies.{event_count, input_count, inputs_before}
use Rattle.tree_file.specs.NodeTable.{gate_kind, read_node}
use Rattle.tree_file.specs.WellFormed.{WellFormed}
use Rattle.tree_file.specs.Requirements.{HasLink}
use Rattle.tree_file.specs.declared.node.Gate.{Gate as GateNode}
use Rattle.tree_file.specs.declared.node.Node.TheVariants.{Event, Gate}
use Rattle.tree_file.proofs.Tallies.{event_below, gate_inputs, inputs_monotone}

-- A gate as its record says.
abbrev pub gate_of : List ℕ → ℕ → GateNode
gate_of file i = record { kind = gate_kind (kind file i); first = field_a file i; inputs = field_b file i }

-- A node is a basic event or a gate, by its kind.
pub data NodeCase (file : List ℕ) (i : ℕ) : Type 0 where
  is_event : kind file i ≡ 0 → read_node file i ≡ Event (field_a file i) → NodeCase file i
  is_gate : 0 < kind file i → read_node file i ≡ Gate (gate_of file i) → NodeCase file i

pub node_case : (file : List ℕ) (i : ℕ) → NodeCase file i
unfolding read_node
node_case file i =
    ⊎_elim (λ z. is_event z (rw (eq-eqb (kind file i) 0 z)))
    (λ g. is_gate g (rw (ne_eqb (kind file i) 0 (λ z. omega arith)))) (eq-zero-or-pos (kind file i))

-- The part of a file from an offset on, as code lends it.
pub part_read : (file : List ℕ) (first at : ℕ) → at ≡ link_at file first
    → take (length file - at) (drop at file) ≡ links_from file first
part_read file first at e = rw (← e) (part_from file at)

-- Link j of the part that starts at a link is that many links further on in the file.
pub link_in_part : (file : List ℕ) (first j : ℕ) → linked (links_from file first) j ≡ link file (first + j)
link_in_part file first j =
    field16_drop file (link_at file first) (2 * j) ∙ ap (λ (n : ℕ). field16 file n) (omega arith)

module _ (file : List ℕ) (w : WellFormed file) (i : ℕ) (l : i < node_count file) where
  -- A gate's links end within the N − 1 links.
  pub gate_links_end : 0 < kind file i → field_a file i + field_b file i ≤ link_count file
  unfolding inputs_before
  gate_links_end g =
      let up_to = inputs_monotone file (suc i) (node_count file) l in
      rw ((w.node i l).gate_first g, ← gate_inputs file i g, ← w.all_inputs) up_to

  -- A basic event's number is below E.
  pub event_inside : (e : ℕ) → read_node file i ≡ Event e → e < event_count file
  event_inside e q = go (node_case file i)
    where
      go : NodeCase file i → e < event_count file
      go (is_event z r) =
          let number : e ≡ field_a file i = cc in
          rw (number, (w.node i l).event_number z) (event_below file i (node_count file) l z)
      go (is_gate g r) =
          let never : ◌≡◌ {A = ℕ} 0 1 = cc in
          absurd (omega arith)

  module _ (g : GateNode) (q : read_node file i ≡ Gate g) where
    gate_fields : (0 < kind file i) × (g ≡ gate_of file i)
    gate_fields = go (node_case file i)
      where
        go : NodeCase file i → (0 < kind file i) × (g ≡ gate_of file i)
        go (is_event z r) =
            let never : ◌≡◌ {A = ℕ} 0 1 = cc in
            absurd (omega arith)
        go (is_gate k r) = (k, cc)

    pub inputs_least : 1 ≤ g.inputs
    inputs_least = rw gate_fields.1 ((w.node i l).gate_least gate_fields.0)

    pub inputs_most : g.inputs ≤ max_inputs
    inputs_most = rw gate_fields.1 ((w.node i l).gate_most gate_fields.0)

    -- The gate's links end within the N − 1 links.
    pub links_inside : g.first + g.inputs ≤ link_count file
    links_inside = rw gate_fields.1 (gate_links_end gate_fields.0)

    -- Link j of the gate lies within the part that starts at its first link, and names a node below the gate.
    pub link_inside : (j : ℕ) → j < g.inputs → HasLink (links_from file g.first) j
    link_inside j jl = rw length-drop (omega (arith, links_inside, w.header.length_value, w.header.nodes_least))

    pub link_below : (j : ℕ) → j < g.inputs → linked (links_from file g.first) j < i
    link_below j jl =
        let counted : j < input_count file i = rw (gate_inputs file i gate_fields.0) (rw gate_fields.1 at jl) in
        rw (link_in_part file g.first j, gate_fields.1) (w.below i j l counted)
