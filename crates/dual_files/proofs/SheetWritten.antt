-- The complement sheet: what is read of its entries.
use Prim.Native.Nat.{ℕ, ◌+◌, ◌*◌, ◌≤◌, ◌<◌}
use mathlib.Core.Path.{◌≡◌, refl, sym, ap, ◌∙◌}
use mathlib.Core.List.{List, ◌++◌}
use native.Mathlib.Nat.{add-zero}
use native.Mathlib.Omega.{arith}
use lib.Dec.{lit<}
use borrow.Author.Tests.{eq-eqb, ne_eqb}
use lib.ListN.{length, take}
use lib.Seq.{take_at}
use Rattle.theory.specs.Trapezoid.{Trapezoid, Rising}
use Rattle.theory.specs.Dual.{trapezoid_complement}
use Rattle.theory.proofs.DeMorgan.{complement_rising}
use Rattle.fields.specs.Fields.{byte}
use Rattle.fields.proofs.Joined.{with_before, with_length, with_part}
use Rattle.opinion_sheet.specs.Format.{entry_at, event_count, kind, unit}
use Rattle.opinion_sheet.specs.Entries.{numbers_of, fractions_of, last_byte, entry_of}
use Rattle.event_cut.specs.EventCut.{entry_trapezoid, event_trapezoid, numbers_trapezoid, fractions_trapezoid}
use Rattle.opinion_sheet.specs.WellFormed.{WellFormed, WellFormedHeader}
use Rattle.opinion_sheet.specs.declared.entry.Entry.{Entry}
use Rattle.opinion_sheet.specs.declared.entry.Entry.TheVariants as entry
use Rattle.opinion_sheet.proofs.EntriesRead.{kind_number, kind_read, entry_opinions, entry_fractions}
use Rattle.event_cut.proofs.EventRising.{event_rising, opinions_cuttable}
use Rattle.dual_files.specs.Sheet.{fractions_entry, entry_with, complement_entry, complement_sheet}
use Rattle.dual_files.proofs.EntryBytes.{numbers_read, fractions_read}
use Rattle.dual_files.proofs.SheetAsked.{dual_long}

module _ (sheet : List ℕ) (header : WellFormedHeader sheet) where
  entries_inside : 26 + 17 * event_count sheet ≤ length sheet
  entries_inside = omega (arith, header.length_value)

  -- it keeps its length
  pub sheet_long : length (complement_sheet sheet) ≡ length sheet
  unfolding complement_sheet
  sheet_long =
      with_length 26 17 (complement_entry sheet) (event_count sheet) sheet entries_inside (λ e l. dual_long sheet e)

  pub header_bytes : (p : ℕ) → p < 26 → byte (complement_sheet sheet) p ≡ byte sheet p
  unfolding complement_sheet
  header_bytes = with_before 26 17 (complement_entry sheet) (event_count sheet) sheet entries_inside

  pub entry_bytes : (e j : ℕ) → e < event_count sheet → j < 17
      → byte (complement_sheet sheet) (entry_at sheet e + j) ≡ byte (complement_entry sheet e) j
  unfolding complement_sheet
  entry_bytes =
      with_part 26 17 (complement_entry sheet) (event_count sheet) sheet entries_inside (λ e l. dual_long sheet e)

  -- it is the front of a buffer that it was written to
  pub sheet_front : (n : ℕ) → length sheet ≡ n → (rest : List ℕ)
      → take n (complement_sheet sheet ++ rest) ≡ complement_sheet sheet
  sheet_front n e rest = take_at (complement_sheet sheet) rest n (sheet_long ∙ e)

module _ (sheet : List ℕ) (formed : WellFormed sheet) (e : ℕ) (l : e < event_count sheet) where
  abbrev at : ℕ
  at = entry_at sheet e

  abbrev after : List ℕ
  after = complement_sheet sheet

  abbrev U : ℕ
  U = unit sheet

  -- its four numbers as they are written, in order
  abbrev pub numbers : Trapezoid
  numbers = trapezoid_complement (event_trapezoid U sheet e)

  pub numbers_rising : Rising numbers
  numbers_rising = complement_rising _ (event_rising sheet formed e l)

  -- the entry's bytes, by the entry that was read
  bytes_by : (x : Entry) → entry_of sheet e ≡ x → (j : ℕ) → j < 17
      → byte after (at + j) ≡ byte (entry_with x numbers) j
  bytes_by x read j k =
      entry_bytes sheet formed.header e j l k ∙ ap (λ y. byte (entry_with y numbers) j) read

  kind_by : (x : Entry) → entry_of sheet e ≡ x → kind after e ≡ byte (entry_with x numbers) 0
  kind_by x read = ap (byte after) (sym (add-zero at)) ∙ bytes_by x read 0 (lit< tt)

  -- each number is at most the denominator
  at_most : (bound : ℕ) → numbers.den < bound
      → (numbers.a < bound) × ((numbers.b < bound) × ((numbers.c < bound) × (numbers.d < bound)))
  at_most bound h =
      let r = numbers_rising in
      let d : numbers.d < bound = omega (arith, r.d_den) in
      let c : numbers.c < bound = omega (arith, r.c_d) in
      let b : numbers.b < bound = omega (arith, r.b_c) in
      (omega (arith, r.a_b), (b, (c, d)))

  -- What becomes of an entry.
  pub data TurnedEntry : Type 0 where
    numbers_stay : kind sheet e ≡ 0 → kind after e ≡ 0
        → numbers_of after at ≡ record { a = numbers.a; b = numbers.b; c = numbers.c; d = numbers.d }
        → numbers.den ≡ U → TurnedEntry
    fractions_come : 0 < kind sheet e → kind after e ≡ 2
        → fractions_of after at
        ≡ record {
          den = numbers.den;
          numerators = record { a = numbers.a; b = numbers.b; c = numbers.c; d = numbers.d };
        }
        → last_byte after at ≡ 0 → numbers.den ≤ 1000000 → TurnedEntry

  -- a fraction entry comes of an entry that is written as one
  fractions_written : (x : Entry) → entry_of sheet e ≡ x
      → ((j : ℕ) → j < 17 → byte (entry_with x numbers) j ≡ byte (fractions_entry numbers) j)
      → 0 < kind_number x → numbers.den ≤ 1000000 → TurnedEntry
  fractions_written x read same some den_most =
      let den_small : numbers.den < 16777216 = omega arith in
      let (a, (b, (c, d))) = at_most 16777216 den_small in
      let written : (j : ℕ) → j < 17 → byte after (at + j) ≡ byte (fractions_entry numbers) j =
      λ j k. bytes_by x read j k ∙ same j k in
      fractions_come (rw (kind_read sheet U e (formed.entry e l), read) some)
      (kind_by x read ∙ same 0 (lit< tt)) (fractions_read after at numbers written den_small a b c d)
      (written 16 (lit< tt)) den_most

  -- every entry becomes one of the two
  pub turned_entry : TurnedEntry
  turned_entry = go (entry_of sheet e) refl
    where
      go : (x : Entry) → entry_of sheet e ≡ x → TurnedEntry
      go (entry.Numbers x) read =
          let den_is : numbers.den ≡ U = ap (λ y. (entry_trapezoid U sheet y).den) read in
          let (a, (b, (c, d))) = at_most 4294967296 (rw den_is (lit< tt)) in
          numbers_stay (kind_read sheet U e (formed.entry e l) ∙ ap kind_number read) (kind_by _ read)
          (numbers_read after at numbers (bytes_by _ read) a b c d) den_is
      go (entry.Opinions terms) read =
          let (place, opinions) = entry_opinions sheet U e (formed.entry e l) read in
          let cuttable =
          opinions_cuttable sheet U (lit< tt) formed.scores formed.header.experts_most terms opinions in
          fractions_written _ read (λ j k. refl) (lit< tt)
          (rw (ap (λ y. (entry_trapezoid U sheet y).den) read) cuttable.den_bounded)
      go (entry.Fractions x) read =
          fractions_written _ read (λ j k. refl) (lit< tt)
          (rw (ap (λ y. (entry_trapezoid U sheet y).den) read)
          (entry_fractions sheet U e (formed.entry e l) read).den_most)

  -- its four numbers are read as they were written
  pub numbers_turned : event_trapezoid U after e ≡ numbers
  numbers_turned = go turned_entry
    where
      go : TurnedEntry → event_trapezoid U after e ≡ numbers
      go (numbers_stay z y read den_is) =
          rw (eq-eqb (kind after e) 0 y)
          (ap (numbers_trapezoid U) read
          ∙ (λ i. record { den = sym den_is i; a = numbers.a; b = numbers.b; c = numbers.c; d = numbers.d }))
      go (fractions_come z y read last most) =
          rw (ne_eqb (kind after e) 0 (λ q. omega arith), ne_eqb (kind after e) 1 (λ q. omega arith))
          (ap fractions_trapezoid read)
