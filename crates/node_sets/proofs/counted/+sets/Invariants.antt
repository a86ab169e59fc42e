-- A set of a node is made of sets of its inputs, whose rank is lower: the measures are twice the rank, and one more.
-- An AND's set is what is joined so far, and set number `rest` of the inputs from link j on; an OR's is set number
-- `rest` of those.
use Rattle.std.proofs.Common.{◌+◌, ◌*◌, ◌<◌, ◌≡◌}
use Rattle.theory.specs.MinimalCutSets.{SameSet}
use Rattle.theory.specs.CutSetFamily.{alternatives, union, unions}
use Rattle.tree_file.specs.NodeTable.{rank}
use Rattle.node_sets.specs.Numbers.{members}
use Rattle.node_sets.specs.Counted.{sets_of}
use Rattle.node_sets.proofs.LinkedSets.{sets_between}
use Rattle.node_sets.proofs.counted.+sets.Given as goal

abbrev pub decreases-CountedNode::set : goal.decreases-CountedNode::set
decreases-CountedNode::set l = 2 * rank l.self.tree.now.file.now l.self.node + 1

abbrev pub decreases-CountedGate::union : goal.decreases-CountedGate::union
decreases-CountedGate::union l = 2 * rank l.self.node.tree.now.file.now l.self.node.node

abbrev pub decreases-CountedGate::alternative : goal.decreases-CountedGate::alternative
decreases-CountedGate::alternative l = 2 * rank l.self.node.tree.now.file.now l.self.node.node

abbrev pub invariant-CountedGate::union-loop-j : goal.invariant-CountedGate::union-loop-j
invariant-CountedGate::union-loop-j l = record {
  below : l.rest < (unions (sets_between l.self.node.tree.now.file.now l.j l.j-end)).count;
  same : SameSet ((sets_of l.self.node).set l.r)
      (union (members l.set) ((unions (sets_between l.self.node.tree.now.file.now l.j l.j-end)).set l.rest));
}

abbrev pub invariant-CountedGate::alternative-loop-j : goal.invariant-CountedGate::alternative-loop-j
invariant-CountedGate::alternative-loop-j l = record {
  below : l.rest < (alternatives (sets_between l.self.node.tree.now.file.now l.j l.j-end)).count;
  same : (sets_of l.self.node).set l.r ≡ (alternatives (sets_between l.self.node.tree.now.file.now l.j l.j-end)).set l.rest;
}
