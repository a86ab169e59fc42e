-- The entry's fault is the first.
use Rattle.std.proofs.Common.{arith}
use Rattle.refusals.proofs.FirstFault.{passed_found}
use Rattle.sheet_judging.proofs.entry.judge_entries.Goals as goal

pub returns-in_err-judge_entry : goal.returns-in_err-judge_entry
returns-in_err-judge_entry c = grind (arith, passed_found)
