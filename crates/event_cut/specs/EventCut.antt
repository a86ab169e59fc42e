-- The four numbers of an event, unrounded, and the reported cut of the event. U is the unit of numbers and ends.
use Rattle.std.specs.Prelude.{ℕ, List}
use Rattle.theory.specs.Interval.{Interval}
use Rattle.theory.specs.Trapezoid.{Trapezoid, cut}
use Rattle.theory.specs.Opinion.{mean}
use Rattle.theory.specs.Rounding.{cut_end, end_of}
use Rattle.rounding.specs.Ends.{enclosure}
use Rattle.rounding.specs.declared.end.Enclosure.{Enclosure}
use Rattle.opinion_sheet.specs.Format.{expert_count}
use Rattle.opinion_sheet.specs.Entries.{entry_of}
use Rattle.event_cut.specs.Opinion.{opinions_among}
use Rattle.opinion_sheet.specs.declared.numbers.Numbers.{Numbers}
use Rattle.opinion_sheet.specs.declared.fractions.Fractions.{Fractions}
use Rattle.opinion_sheet.specs.declared.entry.Entry.{Entry}
use Rattle.opinion_sheet.specs.declared.entry.Entry.TheVariants as entry

-- Four numbers in units of which U make 1 are fractions over U.
abbrev pub numbers_trapezoid : ℕ → Numbers ℕ → Trapezoid
numbers_trapezoid U x = record { den = U; a = x.a; b = x.b; c = x.c; d = x.d }

-- Four numerators over a denominator are fractions as they stand.
abbrev pub fractions_trapezoid : Fractions → Trapezoid
fractions_trapezoid x = numbers_trapezoid x.den x.numerators

-- The four numbers of an entry: as given, or the theory's mean of the opinions of the listed experts. Somebody spoke
-- (rule 12), with a score of at least 1 (rule 7), so that the mean's denominator is not 0; a denominator that is given
-- is not either (rule 28).
abbrev pub entry_trapezoid : ℕ → List ℕ → Entry → Trapezoid
entry_trapezoid U file (entry.Numbers x) = numbers_trapezoid U x
entry_trapezoid U file (entry.Opinions terms) = mean (opinions_among file terms (expert_count file))
entry_trapezoid U file (entry.Fractions x) = fractions_trapezoid x

-- The four numbers of an event.
abbrev pub event_trapezoid : ℕ → List ℕ → ℕ → Trapezoid
event_trapezoid U file event = entry_trapezoid U file (entry_of file event)

-- The exact cut of an event at level k of n.
abbrev pub event_cut : ℕ → List ℕ → ℕ → ℕ → ℕ → Interval
event_cut U file k n event = cut (event_trapezoid U file event) k n

-- An interval rounded outward: each end once, to units of which U make 1.
abbrev pub outward : ℕ → Interval → Enclosure
outward U x = enclosure (λ w. cut_end U w (end_of w x))

-- The reported cut of an event at level k of n. n is at least 1 (rule 13), so that no denominator is 0.
abbrev pub cut_at : ℕ → List ℕ → ℕ → ℕ → ℕ → Enclosure
cut_at U file event k n = outward U (event_cut U file k n event)
