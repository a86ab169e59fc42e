-- The stored ends are at most U.
use Rattle.evaluation.proofs.GateTurn.{node_in_units}
use Rattle.evaluation.proofs.gate.seen_input.Goals as goal

pub seen_ends-requires : goal.seen_ends-requires
seen_ends-requires c = node_in_units c.requires c.linked_node-node.ensures c.ends-ends.ensures
