-- The entries as they are read: what each kind of entry holds.
use Rattle.std.specs.Prelude.{ℕ, ◌+◌, List, cond, eqb, Result, Ok, Err}
use Rattle.fields.specs.Fields.{byte, field24, field32}
use Rattle.refusals.specs.declared.rule.Rule.{Rule}
use Rattle.refusals.specs.declared.rule.Rule.TheVariants as rule
use Rattle.opinion_sheet.specs.Format.{entry_at, kind, numbers_kind, opinions_kind, fractions_kind, terms_at}
use Rattle.opinion_sheet.specs.declared.numbers.Numbers.{Numbers}
use Rattle.opinion_sheet.specs.declared.fractions.Fractions.{Fractions}
use Rattle.opinion_sheet.specs.declared.entry.Entry.{Entry}
use Rattle.opinion_sheet.specs.declared.entry.Entry.TheVariants as entry
use Rattle.opinion_sheet.specs.declared.kind.EntryKind.{EntryKind}
use Rattle.opinion_sheet.specs.declared.kind.EntryKind.TheVariants as kinds

-- The kind of a kind byte: 0 to 2, and rule 6 for any other.
abbrev pub kind_of : ℕ → Result EntryKind Rule
kind_of byte =
    cond (eqb byte numbers_kind) (Ok kinds.Numbers)
    (cond (eqb byte opinions_kind) (Ok kinds.Opinions)
    (cond (eqb byte fractions_kind) (Ok kinds.Fractions) (Err rule.UnknownKind)))

-- The four numbers of the number entry at a place.
abbrev pub numbers_of : List ℕ → ℕ → Numbers ℕ
numbers_of file at =
    record {
      a = field32 file (at + 1);
      b = field32 file (at + 5);
      c = field32 file (at + 9);
      d = field32 file (at + 13);
    }

-- The fractions of the fraction entry at a place: a denominator, then four numerators, three bytes each.
abbrev pub fractions_of : List ℕ → ℕ → Fractions
fractions_of file at =
    record {
      den = field24 file (at + 1);
      numerators = record {
        a = field24 file (at + 4);
        b = field24 file (at + 7);
        c = field24 file (at + 10);
        d = field24 file (at + 13);
      };
    }

-- The byte after them, the entry's last.
abbrev pub last_byte : List ℕ → ℕ → ℕ
last_byte file at = byte file (at + 16)

-- The entry of an event: entry kind 0 gives four numbers, kind 1 opinions, kind 2 fractions. Any other kind would
-- read as fractions, but rule 6 excludes it.
abbrev pub entry_of : List ℕ → ℕ → Entry
entry_of file event =
    cond (eqb (kind file event) numbers_kind) (entry.Numbers (numbers_of file (entry_at file event)))
    (cond (eqb (kind file event) opinions_kind) (entry.Opinions (terms_at file event))
    (entry.Fractions (fractions_of file (entry_at file event))))
