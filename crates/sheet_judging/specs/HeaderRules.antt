-- The rules of the header, refusals 1 to 5, in document 01's order: E before the experts.
use Rattle.std.specs.Prelude.{ℕ, List, [], ◌∷◌, Bool, ◌&&◌, length, leb, eqb}
use Rattle.refusals.specs.FirstFault.{FirstFault, unless, first_of}
use Rattle.refusals.specs.declared.rule.Rule.TheVariants as rule
use Rattle.opinion_sheet.specs.Format.{header_length, letters_place, version_place, events_place, experts_place}
use Rattle.opinion_sheet.specs.Format.{has_letters, version, version_read, event_count, max_events}
use Rattle.opinion_sheet.specs.Format.{expert_count, expert_places, required_length}

-- A number lies between two others, both included.
abbrev pub within : ℕ → ℕ → ℕ → Bool
within low high x = leb low x && leb x high

-- The faults of the header's rules, in order.
abbrev pub header_rules : List ℕ → List FirstFault
header_rules file =
    unless (leb header_length (length file)) rule.TooShort (length file)
    ∷ unless (has_letters file) rule.WrongLetters letters_place
    ∷ unless (eqb (version file) version_read) rule.WrongVersion version_place
    ∷ unless (within 1 max_events (event_count file)) rule.WrongCount events_place
    ∷ unless (within 0 expert_places (expert_count file)) rule.WrongCount experts_place
    ∷ unless (eqb (length file) (required_length file)) rule.WrongLength (length file)
    ∷ []

-- The first of them.
unfoldable pub header_fault : List ℕ → FirstFault
header_fault file = first_of (header_rules file)
