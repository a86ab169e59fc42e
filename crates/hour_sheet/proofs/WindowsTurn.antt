-- The windows written one after the other: what holds at each turn, and what the hour's sheet asks and leaves.
use Prim.Native.Nat.{ℕ, ◌+◌, ◌≤◌}
use mathlib.Core.Path.{◌≡◌, refl, ap, ◌∙◌}
use mathlib.Core.Bool.{true, false}
use mathlib.Core.List.{List, ◌++◌}
use native.Mathlib.Numerals.{add-one}
use native.Mathlib.Omega.{arith}
use lib.ListN.{length, take, drop}
use lib.Seq.{take-length}
use Rattle.opinion_sheet.specs.Format.{unit}
use Rattle.work_book.specs.Book.{window_count, window_at, open_in}
use Rattle.work_book.specs.declared.book.Window.{Window}
use Rattle.hour_sheet.specs.Sheet.{written_sheet}
use Rattle.hour_sheet.specs.Writing.{with_certain, window_written, windows_written, Writable}
use Rattle.hour_sheet.proofs.SheetWritten.{windows_are}

-- One window, by whether it is open.
module _ (U : ℕ) (book : List ℕ) (hour i : ℕ) (buffer : List ℕ) (window : Window) (is : window ≡ window_at book i) where
  -- one that is shut leaves the buffer
  pub window_shut : open_in window hour ≡ false → buffer ≡ window_written U book hour i buffer
  window_shut e = rw (rw is at e) refl

  -- one that is open puts its event
  pub window_opened : open_in window hour ≡ true → (after : List ℕ)
      → after ≡ with_certain U window.event buffer → after ≡ window_written U book hour i buffer
  window_opened e after w = rw (rw is at e) (rw is at w)

-- One window more is written.
pub written_more : (U : ℕ) (book : List ℕ) (hour : ℕ) (before buffer : List ℕ) (i : ℕ)
    → buffer ≡ windows_written U book hour i before → (after : List ℕ) → after ≡ window_written U book hour i buffer
    → after ≡ windows_written U book hour (i + 1) before
unfolding windows_written
written_more U book hour before buffer i w after e = simp (e, w, add-one) refl

-- All are written.
pub writing_ends : (U : ℕ) (book : List ℕ) (count hour : ℕ) (before buffer : List ℕ) (i : ℕ) → i ≤ count
    → buffer ≡ windows_written U book hour i before → count ≤ i → buffer ≡ windows_written U book hour count before
writing_ends U book count hour before buffer i within w l =
    let all : i ≡ count = omega arith in
    w ∙ ap (λ (m : ℕ). windows_written U book hour m before) all

-- The sheet copied to the front of the buffer, and the windows written over it.
module _ (sheet book buffer : List ℕ) (w : Writable sheet book buffer) (copied : List ℕ)
    (copy : copied ≡ take (length sheet) sheet ++ drop (length sheet) buffer) where
  -- the hour's sheet, and the rest of the buffer
  pub hour_written : (hour : ℕ) (after : List ℕ)
      → after ≡ windows_written (unit sheet) book hour (window_count book) copied
      → after ≡ written_sheet sheet book hour ++ drop (length sheet) buffer
  hour_written hour after e =
      let front : copied ≡ sheet ++ drop (length sheet) buffer =
      copy ∙ ap (λ (xs : List ℕ). xs ++ drop (length sheet) buffer) (take-length sheet) in
      e
      ∙ ap (windows_written (unit sheet) book hour (window_count book)) front
      ∙ windows_are sheet w.length_value book hour (window_count book) w.event_below (drop (length sheet) buffer)
