-- What the functions that write an hour's sheet ask and leave, for their contracts alone: `question_at_hour` asks
-- nothing, and leaves `buffer_left` of Question.
use Rattle.std.specs.Prelude.{ℕ, zero, suc, ◌+◌, ◌≤◌, ◌<◌, ◌≡◌, cond, List, ◌++◌, length, take, drop}
use Rattle.opinion_sheet.specs.Format.{entry_length, entry_at, event_count, required_length}
use Rattle.work_book.specs.Book.{window_count, window_event, open_at}
use Rattle.hour_sheet.specs.Sheet.{certain_entry}

-- A buffer that begins with a sheet, with the entry of an event replaced by the certain one.
abbrev pub with_certain : ℕ → ℕ → List ℕ → List ℕ
with_certain U event buffer =
    let place = entry_at buffer event in
    take place buffer ++ (certain_entry U ++ drop (place + entry_length buffer) buffer)

-- The buffer after window i.
abbrev pub window_written : ℕ → List ℕ → ℕ → ℕ → List ℕ → List ℕ
window_written U book hour i buffer = cond (open_at book hour i) (with_certain U (window_event book i) buffer) buffer

-- The buffer after the first n windows, in their order.
unfoldable pub windows_written : ℕ → List ℕ → ℕ → ℕ → List ℕ → List ℕ
windows_written U book hour zero buffer = buffer
windows_written U book hour (suc n) buffer =
    window_written U book hour n (windows_written U book hour n buffer)

-- The entry of an event lies inside the buffer.
abbrev pub EntryInside : ℕ → List ℕ → Type 0
EntryInside event buffer = entry_at buffer event + entry_length buffer ≤ length buffer

-- The entries of the events of the first n windows do.
abbrev pub EntriesInside : List ℕ → ℕ → List ℕ → Type 0
EntriesInside book n buffer = (i : ℕ) → i < n → EntryInside (window_event book i) buffer

-- A sheet as long as its counts require, a book of windows of its events, and a buffer with room for the sheet.
pub record Writable (sheet book buffer : List ℕ) : Type 0 where
  pub length_value : length sheet ≡ required_length sheet
  pub event_below : (i : ℕ) → i < window_count book → window_event book i < event_count sheet
  pub room : length sheet ≤ length buffer
