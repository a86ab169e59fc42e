use Rattle.std.proofs.Common.{rules}
use Rattle.node_lines.proofs.Written.{left_long}
use Rattle.node_lines.proofs.print_nodes.Goals as goal

pub loop-i-init : goal.loop-i-init
loop-i-init g c =
    rw c.question-reply.ensures.work_slices (left_long _ _ _ _ _ _ _ (search rules))
