-- It calls itself at the nodes that its links name, whose rank is lower: the measure is the rank. The invariant is that
-- the inputs of the links before j are counted.
use Rattle.std.proofs.Common.{ℕ, ◌≤◌, ◌<◌, ◌≡◌}
use Rattle.tree_file.specs.Format.{link}
use Rattle.tree_file.specs.NodeTable.{kind_as, rank}
use Rattle.node_sets.specs.Requirements.{RightAt, RightBeneath}
use Rattle.node_sets.proofs.Growth.{part_of}
use Rattle.node_sets.proofs.counting.+count_beneath.Given as goal

abbrev pub decreases-count_beneath : goal.decreases-count_beneath
decreases-count_beneath l = rank l.tree.now l.i

abbrev pub invariant-loop-j : goal.invariant-loop-j
invariant-loop-j l = record {
  total_is : l.total ≡ (part_of (kind_as l.gate.kind) l.tree l.gate.first l.j).count;
  right : (n : ℕ) → n < l.j → l.gate.first ≤ n → RightBeneath l.tree l.counts (link l.tree n);
  kept : (m : ℕ) → RightAt l.tree l.initial.counts m → RightAt l.tree l.counts m;
}
