-- The rules of the entries: the fault of each, refusals 6, 10 to 12 and 28. U is the unit of the numbers.
use Rattle.std.specs.Prelude.{ℕ, List, Bool, cond, ◌&&◌, leb, eqb, Err}
use Rattle.refusals.specs.FirstFault.{FirstFault, unless, first_among}
use Rattle.refusals.specs.declared.rule.Rule.TheVariants as rule
use Rattle.opinion_sheet.specs.Format.{entry_at, event_count, kind, numbers_kind, opinions_kind, fractions_kind}
use Rattle.opinion_sheet.specs.Format.{max_denominator}
use Rattle.opinion_sheet.specs.Entries.{numbers_of, fractions_of, last_byte}
use Rattle.sheet_judging.specs.HeaderRules.{within}
use Rattle.sheet_judging.specs.TermRules.{opinions_fault}
use Rattle.opinion_sheet.specs.declared.numbers.Numbers.{Numbers}
use Rattle.opinion_sheet.specs.declared.fractions.Fractions.{Fractions}

-- Four numbers rise and are at most U.
abbrev pub numbers_rule : ℕ → Numbers ℕ → Bool
numbers_rule U x = leb x.a x.b && leb x.b x.c && leb x.c x.d && leb x.d U

-- The fault of the number entry at a place.
abbrev pub numbers_fault : ℕ → List ℕ → ℕ → FirstFault
numbers_fault U file at = unless (numbers_rule U (numbers_of file at)) rule.NumberOrder at

-- The numerators rise and are at most the denominator, which is 1 to 1,000,000, and the last byte is 0.
abbrev pub fractions_rule : Fractions → ℕ → Bool
fractions_rule x last = numbers_rule x.den x.numerators && within 1 max_denominator x.den && eqb last 0

-- The fault of the fraction entry at a place.
abbrev pub fractions_fault : List ℕ → ℕ → FirstFault
fractions_fault file at = unless (fractions_rule (fractions_of file at) (last_byte file at)) rule.WrongFractions at

-- The fault of the entry of an event, its kind first.
abbrev pub entry_fault : ℕ → List ℕ → ℕ → FirstFault
entry_fault U file event =
    cond (eqb (kind file event) numbers_kind) (numbers_fault U file (entry_at file event))
    (cond (eqb (kind file event) opinions_kind) (opinions_fault file (entry_at file event))
    (cond (eqb (kind file event) fractions_kind) (fractions_fault file (entry_at file event))
    (Err (record { rule = rule.UnknownKind; place = entry_at file event }))))

-- The first fault among the entries, rising.
abbrev pub entries_fault : ℕ → List ℕ → FirstFault
entries_fault U file = first_among (entry_fault U file) (event_count file)
