-- A tree is held and judged, or none is held.
use Rattle.held_pair.proofs.Standing.{tree_missing, tree_judged}
use Rattle.held_pair.proofs.lent.HeldTree.judge.Goals as goal

pub returns-then-self-eq0 : goal.returns-then-self-eq0
returns-then-self-eq0 c = tree_missing _ _ _ c.at.ensures c.if-self-eq0.true

pub returns : goal.returns
returns c = tree_judged _ _ c.if-self-eq0.false _ c.judge_held.ensures
