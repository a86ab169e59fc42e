-- The rules of an opinion entry, refusals 11 and 12; 11 comes first.
use Rattle.std.specs.Prelude.{ℕ, zero, suc, ◌+◌, List, [], ◌∷◌, Bool, false, cond, ◌||◌, not, ltb, leb, eqb}
use Rattle.refusals.specs.FirstFault.{FirstFault, unless, first_of, first_among}
use Rattle.refusals.specs.declared.rule.Rule.TheVariants as rule
use Rattle.opinion_sheet.specs.Format.{expert_count, expert_places, max_term, term}

-- A term is at most 7 for a listed expert and 0 after the last.
abbrev pub term_rule : ℕ → ℕ → ℕ → Bool
term_rule experts expert given = leb given (cond (ltb expert experts) max_term 0)

-- The fault of one expert's term where the terms begin at a place, at the term's byte.
abbrev pub term_fault : List ℕ → ℕ → ℕ → FirstFault
term_fault file terms expert =
    unless (term_rule (expert_count file) expert (term file terms expert)) rule.WrongTerm (terms + expert)

-- Somebody among the first n experts gave a term. Where the terms are in rule, only a listed expert can have.
unfoldable pub spoke_among : List ℕ → ℕ → ℕ → Bool
spoke_among file terms zero = false
spoke_among file terms (suc n) = spoke_among file terms n || not (eqb (term file terms n) 0)

-- The faults of the opinion entry at a place: of its terms, rising, and that nobody spoke.
abbrev pub opinion_rules : List ℕ → ℕ → List FirstFault
opinion_rules file at =
    first_among (term_fault file (at + 1)) expert_places
    ∷ unless (spoke_among file (at + 1) expert_places) rule.NobodySpoke at
    ∷ []

-- The first fault of the opinion entry at a place.
abbrev pub opinions_fault : List ℕ → ℕ → FirstFault
opinions_fault file at = first_of (opinion_rules file at)
