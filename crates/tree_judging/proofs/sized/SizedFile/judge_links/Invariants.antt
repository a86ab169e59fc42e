-- The gates passed, and the links passed of this gate, have no fault, and `named` flags the nodes that the links passed
-- name.
use Rattle.std.proofs.Common.{◌-◌}
use Rattle.tree_judging.proofs.LinksTurn.{GatesBefore, LinksBefore}
use Rattle.tree_judging.proofs.sized.SizedFile.judge_links.Given as goal

abbrev pub invariant-links : goal.invariant-links
invariant-links l = LinksBefore l.self.file.now l.self.nodes l.named l.first l.gate l.inputs l.k

abbrev pub invariant-gates : goal.invariant-gates
invariant-gates l = GatesBefore l.self.file.now l.self.nodes l.named l.first l.gate

abbrev pub decreases-gates : goal.decreases-gates
decreases-gates l = l.self.nodes - l.gate
