use Rattle.tree_file.specs.Format.{max_nodes}
use Rattle.work_slices.specs.Slices.{Long, contents}
use Rattle.node_lines.proofs.print_nodes.Given as goal

-- Each slice has a place for each node that any tree has.
abbrev pub invariant-loop-i : goal.invariant-loop-i
invariant-loop-i g l = Long max_nodes (contents l.slices)
