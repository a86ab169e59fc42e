-- The sheet that is written for an hour: the held one, with the entry of each basic event that is out of service
-- replaced by four numbers U, the probability 1.
use Rattle.std.specs.Prelude.{ℕ, ◌+◌, ◌<◌, ◌≡◌, Bool, true, false, cond, List, ◌∷◌, ◌++◌, length, take, drop}
use Rattle.fields.specs.Fields.{byte, bytes32, joined}
use Rattle.opinion_sheet.specs.Format.{header_length, entry_length, entry_at, event_count, kind, numbers_kind, unit}
use Rattle.opinion_sheet.specs.Entries.{numbers_of}
use Rattle.hour_sheet.specs.OutOfService.{out_of_service}

-- The number entry (U, U, U, U): its kind, and four 32-bit numbers.
abbrev pub certain_entry : ℕ → List ℕ
certain_entry U = numbers_kind ∷ (bytes32 U ++ (bytes32 U ++ (bytes32 U ++ bytes32 U)))

-- The entry of an event, by whether it is out of service: the certain one, or as held.
abbrev pub written_entry : List ℕ → (ℕ → Bool) → ℕ → List ℕ
written_entry sheet out event =
    cond (out event) (certain_entry (unit sheet)) (take (entry_length sheet) (drop (entry_at sheet event) sheet))

-- The entries of the first n events, one after the other.
abbrev pub written_entries : List ℕ → (ℕ → Bool) → ℕ → List ℕ
written_entries sheet out n = joined (written_entry sheet out) n

-- The header as held, then the entry of each of the E events, by which of them are out of service.
unfoldable pub sheet_with : List ℕ → (ℕ → Bool) → List ℕ
sheet_with sheet out = take header_length sheet ++ written_entries sheet out (event_count sheet)

-- The sheet for an hour.
abbrev pub written_sheet : List ℕ → List ℕ → ℕ → List ℕ
written_sheet sheet book hour = sheet_with sheet (out_of_service book hour)

-- What the bytes of a sheet are once each event that is out of service has its certain entry. Those of `sheet_with` are
-- so, of every accepted sheet: `sheet_means` of proofs/SheetWritten.
pub record Written (sheet : List ℕ) (out : ℕ → Bool) (after : List ℕ) : Type 0 where
  pub length_kept : length after ≡ length sheet
  -- the header is as held
  pub header_kept : (p : ℕ) → p < header_length → byte after p ≡ byte sheet p
  -- an event that is out of service has a number entry, of four numbers U
  pub certain_kind : (e : ℕ) → e < event_count sheet → out e ≡ true → kind after e ≡ numbers_kind
  pub certain_numbers : (e : ℕ) → e < event_count sheet → out e ≡ true
      → numbers_of after (entry_at sheet e)
      ≡ record { a = unit sheet; b = unit sheet; c = unit sheet; d = unit sheet }
  -- the entry of any other is as held
  pub entry_kept : (e : ℕ) → e < event_count sheet → out e ≡ false → (j : ℕ) → j < entry_length sheet
      → byte after (entry_at sheet e + j) ≡ byte sheet (entry_at sheet e + j)
