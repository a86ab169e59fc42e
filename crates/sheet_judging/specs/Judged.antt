-- What judging answers, whatever the bytes: the first fault in the order of document 01, or acceptance with the counts.
use Rattle.std.specs.Prelude.{ℕ, List, [], ◌∷◌, Result}
use Rattle.refusals.specs.FirstFault.{FirstFault, first_of, judged_by}
use Rattle.refusals.specs.declared.refusal.Refusal.{Refusal}
use Rattle.opinion_sheet.specs.Format.{tree_number, event_count, expert_count, unit}
use Rattle.sheet_judging.specs.HeaderRules.{header_fault}
use Rattle.sheet_judging.specs.ScoreRules.{scores_fault}
use Rattle.sheet_judging.specs.EntryRules.{entries_fault}
use Rattle.sheet_judging.specs.declared.judgement.Counts.{Counts}

-- What an accepted file holds.
abbrev pub counts_of : List ℕ → Counts
counts_of file = record { number = tree_number file; events = event_count file; experts = expert_count file }

-- The faults of a file's parts, in order.
abbrev pub rules : List ℕ → List FirstFault
rules file = header_fault file ∷ scores_fault file ∷ entries_fault (unit file) file ∷ []

-- The first of them.
unfoldable pub fault_of : List ℕ → FirstFault
fault_of file = first_of (rules file)

-- The judgement of a file, whatever its bytes.
abbrev pub judged : List ℕ → Result Counts Refusal
judged file = judged_by (fault_of file) (counts_of file)
