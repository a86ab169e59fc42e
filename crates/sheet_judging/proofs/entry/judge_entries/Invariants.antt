-- No entry passed has a fault.
use Rattle.theory.specs.Unit.{billion}
use Rattle.refusals.proofs.FirstFault.{Passed}
use Rattle.sheet_judging.specs.EntryRules.{entry_fault}
use Rattle.sheet_judging.proofs.entry.judge_entries.Given as goal

abbrev pub invariant-loop-event : goal.invariant-loop-event
invariant-loop-event l = Passed (entry_fault billion l.file) l.events l.event
