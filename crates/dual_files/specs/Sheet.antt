-- The complement sheet: the four numbers of each event are what is missing to 1, in the other order.
use Rattle.std.specs.Prelude.{ℕ, ◌<◌, ◌≡◌, List, [], ◌∷◌, ◌++◌, length}
use Rattle.theory.specs.Trapezoid.{Trapezoid}
use Rattle.theory.specs.Dual.{trapezoid_complement}
use Rattle.fields.specs.Fields.{byte, bytes24, bytes32, with_parts}
use Rattle.opinion_sheet.specs.Format.{header_length, event_count, kind, numbers_kind, opinions_kind, fractions_kind}
use Rattle.opinion_sheet.specs.Format.{entry_length, unit}
use Rattle.opinion_sheet.specs.Entries.{entry_of}
use Rattle.event_cut.specs.EventCut.{event_trapezoid}
use Rattle.opinion_sheet.specs.declared.entry.Entry.{Entry}
use Rattle.opinion_sheet.specs.declared.entry.Entry.TheVariants as entry

-- The bytes of a number entry: its kind, and four 32-bit numbers.
abbrev pub numbers_entry : Trapezoid → List ℕ
numbers_entry z = numbers_kind ∷ (bytes32 z.a ++ (bytes32 z.b ++ (bytes32 z.c ++ bytes32 z.d)))

-- The bytes of a fraction entry: its kind, a denominator and four numerators of 24 bits, and a byte of 0.
abbrev pub fractions_entry : Trapezoid → List ℕ
fractions_entry z =
    fractions_kind
    ∷ (bytes24 z.den ++ (bytes24 z.a ++ (bytes24 z.b ++ (bytes24 z.c ++ (bytes24 z.d ++ (0 ∷ []))))))

-- Four numbers in place of an entry: a number entry stays one, opinions and fractions become a fraction entry.
abbrev pub entry_with : Entry → Trapezoid → List ℕ
entry_with (entry.Numbers x) z = numbers_entry z
entry_with (entry.Opinions terms) z = fractions_entry z
entry_with (entry.Fractions x) z = fractions_entry z

-- The entry of an event. Opinions have the mean's own denominator, 100 × the score of all listed experts, not reduced.
abbrev pub complement_entry : List ℕ → ℕ → List ℕ
complement_entry sheet e =
    entry_with (entry_of sheet e) (trapezoid_complement (event_trapezoid (unit sheet) sheet e))

-- The held sheet with these entries in place of its own: the header stays, scores and all.
unfoldable pub complement_sheet : List ℕ → List ℕ
complement_sheet sheet = with_parts header_length (entry_length sheet) (complement_entry sheet) (event_count sheet) sheet

-- What a complement sheet is. The bytes of `complement_sheet` are so, of every accepted sheet: `sheet_means` of
-- proofs/SheetAccepted.
pub record ComplementSheet (sheet after : List ℕ) : Type 0 where
  pub length_kept : length after ≡ length sheet
  -- the header is as held
  pub header_kept : (p : ℕ) → p < header_length → byte after p ≡ byte sheet p
  -- a number entry stays one, any other is a fraction entry
  pub numbers_kept : (e : ℕ) → e < event_count sheet → kind sheet e ≡ numbers_kind → kind after e ≡ numbers_kind
  pub opinions_turned : (e : ℕ) → e < event_count sheet → kind sheet e ≡ opinions_kind → kind after e ≡ fractions_kind
  pub fractions_kept : (e : ℕ) → e < event_count sheet → kind sheet e ≡ fractions_kind
      → kind after e ≡ fractions_kind
  -- the four numbers of an event are 1 − its d, 1 − its c, 1 − its b and 1 − its a, over the same denominator
  pub numbers_turned : (e : ℕ) → e < event_count sheet
      → event_trapezoid (unit sheet) after e ≡ trapezoid_complement (event_trapezoid (unit sheet) sheet e)
