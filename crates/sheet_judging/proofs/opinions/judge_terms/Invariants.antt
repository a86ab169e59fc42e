-- No term passed has a fault.
use Rattle.std.specs.Prelude.{◌+◌}
use Rattle.refusals.proofs.FirstFault.{Passed}
use Rattle.sheet_judging.specs.TermRules.{term_fault}
use Rattle.sheet_judging.proofs.opinions.judge_terms.Given as goal

abbrev pub invariant-loop-expert : goal.invariant-loop-expert
invariant-loop-expert l = Passed (term_fault l.place.file.now (l.place.at + 1)) 16 l.expert
