-- A node that a link of the node names is small, and what is beneath it is beneath the node.
use Rattle.node_sets.specs.Requirements.{through}
use Rattle.node_sets.proofs.Families.{input_small, link_inside}
use Rattle.node_sets.proofs.counted.CountedNode.input.Goals as goal

pub input_at-requires : goal.input_at-requires
input_at-requires c =
    let small = c.args.self.countable.small in
    (small.well_formed, link_inside small _ c.requires)

pub invariant_of-result : goal.invariant_of-result
invariant_of-result c = rw c.input_at.ensures.value (record {
  countable = record {
    small = input_small c.args.self.countable.small _ c.requires;
    long = c.args.self.countable.long;
  };
  right = λ m b. c.args.self.right m (through _ c.requires b);
})
