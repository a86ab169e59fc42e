-- One turn of either loop, and what follows where they end.
use Rattle.tree_judging.proofs.LinksTurn.{gate_done, gate_start, gates_none, link_more, linked_before, wrong_link}
use Rattle.tree_judging.proofs.sized.SizedFile.judge_links.Goals as goal

pub gates-init : goal.gates-init
gates-init c = gates_none _ _

pub links-init : goal.links-init
links-init c = search gate_start

pub links-preserved : goal.links-preserved
links-preserved c = search link_more

pub gates-preserved : goal.gates-preserved
gates-preserved c = search gate_done

pub returns-then-gate-node : goal.returns-then-gate-node
returns-then-gate-node c = search wrong_link

pub returns-then-named-node : goal.returns-then-named-node
returns-then-named-node c = search linked_before
