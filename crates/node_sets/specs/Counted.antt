-- A counted node: its sets and its inputs.
use Rattle.std.specs.Prelude.{ℕ, ◌≡◌}
use Rattle.theory.specs.MinimalCutSets.{Family}
use Rattle.tree_file.specs.Format.{link}
use Rattle.node_sets.specs.Requirements.{node_sets}
use Rattle.node_sets.specs.declared.counted.CountedNode.{CountedNode}

-- The sets of the node, numbered.
abbrev pub sets_of : CountedNode → Family
sets_of n = node_sets n.tree.now.file.now n.node

-- Node m is the one that link j of node n's tree names, with the same counts.
pub record InputOf (n : CountedNode) (j : ℕ) (m : CountedNode) : Type 0 where
  pub same_tree : m.tree.now.file.now ≡ n.tree.now.file.now
  pub same_counts : m.tree.now.counts.now ≡ n.tree.now.counts.now
  pub named : m.node ≡ link n.tree.now.file.now j
