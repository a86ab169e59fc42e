-- The blocks from number q on are written.
use Rattle.node_sets.specs.Counted.{sets_of}
use Rattle.node_sets.proofs.Spreading.{Spreading}
use Rattle.node_sets.proofs.counted.CountedNode.spread.Given as goal

abbrev pub invariant-loop-q : goal.invariant-loop-q
invariant-loop-q l = Spreading (sets_of l.self) l.m l.initial.sets l.sets l.q
