-- No score passed has a fault.
use Rattle.refusals.proofs.FirstFault.{Passed}
use Rattle.sheet_judging.specs.ScoreRules.{score_fault}
use Rattle.sheet_judging.proofs.scores.judge_scores.Given as goal

abbrev pub invariant-loop-expert : goal.invariant-loop-expert
invariant-loop-expert l = Passed (score_fault l.file) 16 l.expert
