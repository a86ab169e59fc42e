-- A counted node has a set; where it is a gate: its sets, its links, and the sets and the rank of its inputs.
use Rattle.std.proofs.Common.{ℕ, ◌+◌, ◌≤◌, ◌<◌, ◌≡◌, refl, ap, ◌∙◌, [], ◌∷◌, ◌++◌, arith}
use Rattle.theory.specs.CutSetFamily.{gate_family}
use Rattle.theory.proofs.CutSetCount.{count_positive}
use Rattle.tree_file.specs.NodeTable.{fault_tree, kind_as, rank}
use Rattle.tree_file.specs.declared.node.Gate.{Gate}
use Rattle.tree_file.specs.declared.node.GateKind.{GateKind}
use Rattle.node_sets.specs.Requirements.{joined_count}
use Rattle.node_sets.specs.Counted.{InputOf, sets_of}
use Rattle.node_sets.specs.declared.counted.CountedNode.{CountedNode}
use Rattle.node_sets.specs.declared.counted.CountedGate.{CountedGate}
use Rattle.node_sets.proofs.LinkedSets.{Links, gate_inputs, last_linked, links_end, next_linked, sets_between}
use Rattle.node_sets.proofs.Families.{gate_owns, gate_sets, input_lower, links_few}
use Rattle.node_sets.proofs.Growth.{part_fits, part_more, part_of}

-- a node has a set
pub some_sets : (n : CountedNode) → 0 < (sets_of n).count
some_sets n = count_positive (fault_tree n.tree.now.file.now n.node)

module _ (c : CountedGate) {k : GateKind} (o : c.gate.kind ≡ k) where
  -- the node, and the gate that it is
  abbrev n : CountedNode
  n = c.node

  abbrev g : Gate
  g = c.gate

  -- its sets are made of those of its inputs
  pub own_sets : sets_of n ≡ gate_family (kind_as k) (gate_inputs n.tree.now.file.now g)
  own_sets =
      gate_sets n.countable.small.well_formed n.countable.small.inside c.read
      ∙ ap (λ (x : GateKind). gate_family (kind_as x) (gate_inputs n.tree.now.file.now g)) o

  -- its links are few
  pub own_few : links_end g < 1024
  own_few = links_few n.countable.small c.read

  module _ {j : ℕ} (h : Links g j) {m : CountedNode} (e : InputOf n j m) where
    -- the sets of the inputs from link j on: first those of the node that it names
    pub first_sets : sets_between n.tree.now.file.now j (links_end g)
        ≡ sets_of m ∷ sets_between n.tree.now.file.now (j + 1) (links_end g)
    first_sets = rw (e.same_tree, e.named) (next_linked n.tree.now.file.now j (links_end g) h.1)

    -- that node's rank is lower
    pub its_rank : rank m.tree.now.file.now m.node < rank n.tree.now.file.now n.node
    its_rank = rw e.named (input_lower n.countable.small.well_formed n.countable.small.inside j (gate_owns n.countable.small.well_formed n.countable.small.inside c.read j h))

    -- the sets of the inputs of the links before link j, and of that node
    pub last_sets : sets_between n.tree.now.file.now g.first (j + 1)
        ≡ sets_between n.tree.now.file.now g.first j ++ (sets_of m ∷ [])
    last_sets = rw (e.same_tree, e.named) (last_linked n.tree.now.file.now g.first j h.0)

    -- so many are there with its sets, at most as many as the gate has
    module _ {total : ℕ} (t : total ≡ (part_of (kind_as k) n.tree.now.file.now g.first j).count) where
      pub joined_is : joined_count (kind_as k) total (sets_of m).count
          ≡ (part_of (kind_as k) n.tree.now.file.now g.first (j + 1)).count
      joined_is = rw (e.same_tree, e.named) (part_more (kind_as k) n.tree.now.file.now g.first j h.0 t refl)

      pub joined_fits : joined_count (kind_as k) total (sets_of m).count ≤ (sets_of n).count
      joined_fits =
          rw (joined_is, ← o)
          (part_fits n.countable.small c.read (j + 1) (omega (arith, h)) (omega (arith, h)))
