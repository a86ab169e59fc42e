-- The sets of a node are made of those of its inputs, whose rank is lower: the measures are three times the rank, one
-- more and two more. The invariant of a gate's loop is that the sets of the inputs of the links before j are written.
use Rattle.std.proofs.Common.{◌+◌, ◌*◌, ◌≤◌, ◌≡◌, length}
use Rattle.theory.specs.FaultTree.{all, any}
use Rattle.tree_file.specs.NodeTable.{rank}
use Rattle.node_sets.specs.Requirements.{Written}
use Rattle.node_sets.proofs.Growth.{part_of}
use Rattle.node_sets.proofs.counted.+writing.Given as goal

abbrev pub decreases-CountedNode::write_sets : goal.decreases-CountedNode::write_sets
decreases-CountedNode::write_sets l = 3 * rank l.self.tree.now.file.now l.self.node + 1

abbrev pub decreases-CountedGate::write_alternatives : goal.decreases-CountedGate::write_alternatives
decreases-CountedGate::write_alternatives l = 3 * rank l.self.node.tree.now.file.now l.self.node.node

abbrev pub decreases-CountedGate::write_unions : goal.decreases-CountedGate::write_unions
decreases-CountedGate::write_unions l = 3 * rank l.self.node.tree.now.file.now l.self.node.node

abbrev pub decreases-CountedNode::write_joined : goal.decreases-CountedNode::write_joined
decreases-CountedNode::write_joined l = 3 * rank l.self.tree.now.file.now l.self.node + 2

abbrev pub invariant-CountedGate::write_alternatives-loop-j : goal.invariant-CountedGate::write_alternatives-loop-j
invariant-CountedGate::write_alternatives-loop-j l = record {
  total_is : l.total ≡ (part_of any l.self.node.tree.now.file.now l.self.gate.first l.j).count;
  room : l.total ≤ length l.fn.sets;
  written : Written (part_of any l.self.node.tree.now.file.now l.self.gate.first l.j) l.fn.sets l.sets;
}

abbrev pub invariant-CountedGate::write_unions-loop-j : goal.invariant-CountedGate::write_unions-loop-j
invariant-CountedGate::write_unions-loop-j l = record {
  total_is : l.total ≡ (part_of all l.self.node.tree.now.file.now l.self.gate.first l.j).count;
  room : l.total ≤ length l.fn.sets;
  written : Written (part_of all l.self.node.tree.now.file.now l.self.gate.first l.j) l.fn.sets l.sets;
}
