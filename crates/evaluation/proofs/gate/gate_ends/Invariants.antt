-- The running interval after j inputs.
use Rattle.theory.specs.Unit.{billion}
use Rattle.tree_file.specs.NodeTable.{kind_as}
use Rattle.work_slices.specs.Slices.{contents}
use Rattle.evaluation.proofs.GateTurn.{Running}
use Rattle.evaluation.proofs.gate.gate_ends.Given as goal

abbrev pub invariant-loop-j : goal.invariant-loop-j
invariant-loop-j l =
    Running billion (kind_as l.kind) l.links l.inputs (contents l.slices) l.running l.j
