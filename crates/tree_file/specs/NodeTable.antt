-- The nodes of a tree file as they are read, the table that they make, and the fault tree that each of them stands for.
use Rattle.std.specs.Prelude.{ℕ, ◌-◌, cond, List, eqb}
use Rattle.theory.specs.FaultTree.{Tree}
use Rattle.theory.specs.FaultTree as theory
use Rattle.theory.specs.NodeTable.{event, joint, Table, tree_of}
use Rattle.theory.specs.NodeTable as table
use Rattle.tree_file.specs.Format.{and_kind, field_a, field_b, kind, link, node_count}
use Rattle.tree_file.specs.Tallies.{is_basic}
use Rattle.tree_file.specs.declared.node.GateKind.{GateKind}
use Rattle.tree_file.specs.declared.node.Node.{Node}
use Rattle.tree_file.specs.declared.node.GateKind.TheVariants.{All, Any}
use Rattle.tree_file.specs.declared.node.Node.TheVariants.{Event, Gate}

-- The kind of gate that a kind byte says. Only 1 and 2 come here: 0 is a basic event, and rule 6 refuses the others.
abbrev pub gate_kind : ℕ → GateKind
gate_kind k = cond (eqb k and_kind) All Any

-- Node i as its record says.
unfoldable pub read_node : List ℕ → ℕ → Node
read_node file i =
    cond (is_basic file i) (Event (field_a file i))
    (Gate (record { kind = gate_kind (kind file i); first = field_a file i; inputs = field_b file i }))

-- All of the inputs is AND, any of them is OR.
abbrev pub kind_as : GateKind → theory.GateKind
kind_as All = theory.all
kind_as Any = theory.any

-- A node as the theory has it, which counts the inputs beyond the first. A gate has at least one by rule 7, so the
-- subtraction never stops at 0.
abbrev pub node_as : Node → table.Node
node_as (Event e) = event e
node_as (Gate g) = joint (kind_as g.kind) g.first (g.inputs - 1)

abbrev pub node_of : List ℕ → ℕ → table.Node
node_of file i = node_as (read_node file i)

abbrev pub table_of : List ℕ → Table
table_of file = record { size = node_count file; node = node_of file; link = link file }

-- The fault tree that node i of a well-formed file stands for.
abbrev pub fault_tree : List ℕ → ℕ → Tree
fault_tree file i = tree_of (table_of file) i

-- The root is the last node, N − 1: an accepted tree has N at least 1, so the subtraction never stops at 0.
abbrev pub root : List ℕ → ℕ
root file = node_count file - 1

-- A node's rank, which falls from a gate to its inputs: in this version its number.
abbrev pub rank : List ℕ → ℕ → ℕ
rank file i = i
