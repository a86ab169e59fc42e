-- The two phases of the evaluation, as the code goes through them: the events' cuts to their places, then the gates by
-- their links alone. `phases_report` of proofs/Evaluated says what they come to: every node's reported ends.
use Rattle.std.specs.Prelude.{ℕ, List}
use Rattle.theory.specs.Rounding.{Direction, End}
use Rattle.theory.specs.FaultTree.{GateKind}
use Rattle.theory.specs.GateFold.{seen, turned, folded}
use Rattle.tree_file.specs.Format.{links_from, linked}
use Rattle.tree_file.specs.NodeTable.{read_node, kind_as}
use Rattle.tree_file.specs.declared.node.Gate.{Gate}
use Rattle.tree_file.specs.declared.node.Node.{Node}
use Rattle.tree_file.specs.declared.node.Node.TheVariants as node
use Rattle.rounding.specs.Ends.{enclosure}
use Rattle.rounding.specs.declared.end.Enclosure.{Enclosure}
use Rattle.work_slices.specs.Slices.{Slices, stored_end, put}

-- The slices with the cut of a basic event at its node's place; a gate's place is left.
abbrev pub event_put : (ℕ → Enclosure) → ℕ → Node → Slices → Slices
event_put cuts i (node.Event e) s = put i (cuts e) s
event_put cuts i (node.Gate g) s = s

-- The turn of node i in the first phase.
abbrev pub event_turn : (ℕ → Enclosure) → List ℕ → ℕ → Slices → Slices
event_turn cuts tree i s = event_put cuts i (read_node tree i) s

-- A gate's end by the ends of the nodes that its links name, in link order.
abbrev pub fold_end : ℕ → Direction → GateKind → List ℕ → ℕ → (ℕ → End) → End
fold_end U w kind links inputs end =
    seen kind U (folded U (turned kind w) (λ j. seen kind U (end (linked links j))) 0 inputs)

-- Both ends of a gate by the stored ends.
abbrev pub gate_enclosure : ℕ → List ℕ → Gate → Slices → Enclosure
gate_enclosure U tree g s =
    enclosure (λ w. fold_end U w (kind_as g.kind) (links_from tree g.first) g.inputs (stored_end w s))

-- The slices with a gate's ends at its place; a basic event's place is left.
abbrev pub gate_put : ℕ → List ℕ → ℕ → Node → Slices → Slices
gate_put U tree i (node.Event e) s = s
gate_put U tree i (node.Gate g) s = put i (gate_enclosure U tree g s) s

-- The node whose turn comes at a place of the order of evaluation: a gate comes after its inputs.
abbrev pub in_order : List ℕ → ℕ → ℕ
in_order tree place = place

-- The turn of the node at a place of the order in the second phase.
abbrev pub gate_turn : ℕ → List ℕ → ℕ → Slices → Slices
gate_turn U tree p s = gate_put U tree (in_order tree p) (read_node tree (in_order tree p)) s
