-- The opinion sheet's format: where each field stands, how wide it is, and what its limits are. A byte past the end
-- reads as 0 (fields' `byte`), which decides nothing: a header's field counts only past rule 1, an entry's only past
-- rule 5.
use Rattle.std.specs.Prelude.{ℕ, ◌+◌, ◌*◌, Bool, ◌&&◌, List, eqb}
use Rattle.theory.specs.Unit.{billion}
use Rattle.fields.specs.Fields.{byte, field16}

-- The length in bytes of the header.
abbrev pub header_length : ℕ
header_length = 26

-- Where the header's fields stand: the three letters;
abbrev pub letters_place : ℕ
letters_place = 0

-- three 16-bit fields: the version,
abbrev pub version_place : ℕ
version_place = 3

-- the number of the tree and the number of events;
abbrev pub number_place : ℕ
number_place = 5

abbrev pub events_place : ℕ
events_place = 7

-- the byte of the experts, and a score byte for each possible one.
abbrev pub experts_place : ℕ
experts_place = 9

abbrev pub scores_place : ℕ
scores_place = 10

-- The version that is read; the most events; the most experts, each of whom has a score byte and a term byte.
abbrev pub version_read : ℕ
version_read = 1

abbrev pub max_events : ℕ
max_events = 1024

abbrev pub expert_places : ℕ
expert_places = 16

-- The highest score and the highest term code.
abbrev pub max_score : ℕ
max_score = 100

abbrev pub max_term : ℕ
max_term = 7

-- The highest denominator of fractions.
abbrev pub max_denominator : ℕ
max_denominator = 1_000_000

-- The kinds of an entry: four numbers, opinions, fractions.
abbrev pub numbers_kind : ℕ
numbers_kind = 0

abbrev pub opinions_kind : ℕ
opinions_kind = 1

abbrev pub fractions_kind : ℕ
fractions_kind = 2

-- The file begins with the letters `FTS`.
abbrev pub has_letters : List ℕ → Bool
has_letters file = eqb (byte file 0) 70 && eqb (byte file 1) 84 && eqb (byte file 2) 83

abbrev pub version : List ℕ → ℕ
version file = field16 file version_place

-- The number of the tree that the sheet is for.
abbrev pub tree_number : List ℕ → ℕ
tree_number file = field16 file number_place

-- E, the number of basic events, one entry for each.
abbrev pub event_count : List ℕ → ℕ
event_count file = field16 file events_place

abbrev pub expert_count : List ℕ → ℕ
expert_count file = byte file experts_place

-- The score of an expert.
abbrev pub score : List ℕ → ℕ → ℕ
score file expert = byte file (scores_place + expert)

-- The length of an entry, a kind byte and sixteen bytes more; where that of an event stands, after the header.
abbrev pub entry_length : List ℕ → ℕ
entry_length file = 17

abbrev pub entry_at : List ℕ → ℕ → ℕ
entry_at file event = header_length + entry_length file * event

-- The length that the counts require: the entries are the last.
abbrev pub required_length : List ℕ → ℕ
required_length file = entry_at file (event_count file)

-- The kind of the entry of an event, and where its terms begin if it has opinions.
abbrev pub kind : List ℕ → ℕ → ℕ
kind file event = byte file (entry_at file event)

abbrev pub terms_at : List ℕ → ℕ → ℕ
terms_at file event = entry_at file event + 1

-- The term of an expert where the terms begin at a place; 0 where the expert said nothing.
abbrev pub term : List ℕ → ℕ → ℕ → ℕ
term file terms expert = byte file (terms + expert)

-- The unit of the sheet's numbers, and of the ends that are reported from it: so many make 1.
abbrev pub unit : List ℕ → ℕ
unit file = billion
