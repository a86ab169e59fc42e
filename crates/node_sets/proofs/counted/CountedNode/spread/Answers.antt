-- One block more, from the last on.
use Rattle.node_sets.proofs.Spreading.{spread_next}
use Rattle.node_sets.proofs.counted.CountedNode.spread.Goals as goal

pub loop-q-preserved : goal.loop-q-preserved
loop-q-preserved c =
    spread_next c.loop-q.invariant c.loop-q-test.true (rw c.count-q.ensures at c.loop-q.auto.q) c.set.ensures
    c.join_block.ensures c.requires c.loop-q.auto.sets
