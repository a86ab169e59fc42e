-- The lines that are printed, by their fields.
use Rattle.std.specs.Prelude.{ℕ, Bool, true, false, List, [], ◌∷◌, ◌++◌}
use Rattle.refusals.specs.Number.{number_of}
use Rattle.refusals.specs.declared.refusal.Refusal.{Refusal}
use Rattle.rounding.specs.declared.end.End.{End}
use Rattle.rounding.specs.declared.end.Enclosure.{Enclosure}
use Rattle.level_text.specs.Decimal.{decimal}

-- A field and the byte after it.
abbrev pub ended : List ℕ → ℕ → List ℕ
ended field after = field ++ (after ∷ [])

-- Fields parted by one space (32), and the byte after the last. No line is without a field: the first clause is not
-- reached.
abbrev pub parted : List (List ℕ) → ℕ → List ℕ
parted [] after = after ∷ []
parted (field ∷ []) after = ended field after
parted (field ∷ next ∷ more) after = ended field 32 ++ parted (next ∷ more) after

-- A line ends with a line feed (10).
abbrev pub line : List (List ℕ) → List ℕ
line fields = parted fields 10

-- The mark of an end: `=` is exact, `~` is not.
abbrev pub mark : Bool → ℕ
mark true = 61
mark false = 126

-- `input`
abbrev pub input_word : List ℕ
input_word = 105 ∷ 110 ∷ 112 ∷ 117 ∷ 116 ∷ []

-- `refused`
abbrev pub refused_word : List ℕ
refused_word = 114 ∷ 101 ∷ 102 ∷ 117 ∷ 115 ∷ 101 ∷ 100 ∷ []

-- `at`
abbrev pub at_word : List ℕ
at_word = 97 ∷ 116 ∷ []

-- `tree`
abbrev pub tree_word : List ℕ
tree_word = 116 ∷ 114 ∷ 101 ∷ 101 ∷ []

-- `events`
abbrev pub events_word : List ℕ
events_word = 101 ∷ 118 ∷ 101 ∷ 110 ∷ 116 ∷ 115 ∷ []

-- `levels`
abbrev pub levels_word : List ℕ
levels_word = 108 ∷ 101 ∷ 118 ∷ 101 ∷ 108 ∷ 115 ∷ []

-- `input`: the lengths are not those of two files.
abbrev pub input_line : List ℕ
input_line = line (input_word ∷ [])

-- `refused 8 at 34`: a refusal's number and place.
abbrev pub refusal_line : Refusal → List ℕ
refusal_line r = line (refused_word ∷ decimal (number_of r.rule) ∷ at_word ∷ decimal r.place ∷ [])

-- The header's fields after the tree number: E and n.
abbrev pub counts_fields : ℕ → ℕ → List (List ℕ)
counts_fields events n = events_word ∷ decimal events ∷ levels_word ∷ decimal n ∷ []

-- The header: the tree number, E and n.
abbrev pub header_line : ℕ → ℕ → ℕ → List ℕ
header_line number events n = line (tree_word ∷ decimal number ∷ counts_fields events n)

-- The most bytes of a header, whose numbers have at most 20 digits each.
abbrev pub most_header : ℕ
most_header = 82

-- An end's fields: its units and its mark.
abbrev pub end_fields : End → List (List ℕ)
end_fields end = decimal end.value ∷ (mark end.exact ∷ []) ∷ []

-- A level: k, lower, mark, upper, mark.
abbrev pub level_line : ℕ → Enclosure → List ℕ
level_line k ends = line (decimal k ∷ (end_fields ends.lower ++ end_fields ends.upper))

-- The most bytes of a level's line, whose numbers have at most 10 digits each.
abbrev pub most_line : ℕ
most_line = 37
