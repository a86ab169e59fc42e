-- The records passed have no fault, and the counts are theirs.
use Rattle.tree_judging.proofs.RecordsTurn.{RecordsBefore}
use Rattle.tree_judging.proofs.sized.SizedFile.judge_records.Given as goal

abbrev pub invariant-loop-i : goal.invariant-loop-i
invariant-loop-i l = RecordsBefore l.self.file.now l.self.nodes l.i l.events l.inputs
