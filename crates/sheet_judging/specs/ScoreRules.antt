-- The rule of the experts' scores, refusal 7.
use Rattle.std.specs.Prelude.{ℕ, ◌+◌, List, Bool, cond, ltb, eqb}
use Rattle.refusals.specs.FirstFault.{FirstFault, unless, first_among}
use Rattle.refusals.specs.declared.rule.Rule.TheVariants as rule
use Rattle.opinion_sheet.specs.Format.{expert_count, expert_places, score, scores_place, max_score}
use Rattle.sheet_judging.specs.HeaderRules.{within}

-- A score is 1 to 100 for a listed expert and 0 after the last.
abbrev pub score_rule : ℕ → ℕ → ℕ → Bool
score_rule experts expert given = cond (ltb expert experts) (within 1 max_score given) (eqb given 0)

-- The fault of one expert's score, at its byte.
abbrev pub score_fault : List ℕ → ℕ → FirstFault
score_fault file expert =
    unless (score_rule (expert_count file) expert (score file expert)) rule.WrongField (scores_place + expert)

-- The first fault among the sixteen scores, rising.
abbrev pub scores_fault : List ℕ → FirstFault
scores_fault file = first_among (score_fault file) expert_places
