-- What judging a list of bytes answers: the first fault in document 01's order, or acceptance with the counts.
use Rattle.std.specs.Prelude.{ℕ, List, [], ◌∷◌, Result}
use Rattle.refusals.specs.FirstFault.{first_of, judged_by}
use Rattle.refusals.specs.declared.refusal.Refusal.{Refusal}
use Rattle.refusals.specs.FirstFault.{FirstFault}
use Rattle.tree_file.specs.Format.{node_count, tree_number}
use Rattle.tree_file.specs.Tallies.{event_count}
use Rattle.tree_judging.specs.HeaderRules.{header_fault}
use Rattle.tree_judging.specs.RecordRules.{records_fault, sum_fault}
use Rattle.tree_judging.specs.LinkRules.{links_fault}
use Rattle.tree_judging.specs.declared.judgement.Counts.{Counts}

-- What an accepted file holds.
abbrev pub counts_of : List ℕ → Counts
counts_of file = record { number = tree_number file; nodes = node_count file; events = event_count file }

-- What the records and the sum of b answer: the inner contract of `judge_records`, which also counts.
abbrev pub records_judged : List ℕ → Result Counts Refusal
records_judged file = judged_by (first_of (records_fault file ∷ sum_fault file ∷ [])) (counts_of file)

-- The rules of a file: of the header, the records, the sum of b, the links.
abbrev pub rules : List ℕ → List FirstFault
rules file = header_fault file ∷ records_fault file ∷ sum_fault file ∷ links_fault file ∷ []

-- The first fault of a file.
unfoldable pub fault_of : List ℕ → FirstFault
fault_of file = first_of (rules file)

-- The judgement of a file, of whatever content and length.
abbrev pub judged : List ℕ → Result Counts Refusal
judged file = judged_by (fault_of file) (counts_of file)
