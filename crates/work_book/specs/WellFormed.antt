-- The rules of a book, each by itself and in no order: what a book without a fault is, and each rule broken at its
-- place. `book_fault` finds none exactly in the well-formed books (`unfaulted_well_formed` and `well_formed_unfaulted`
-- of proofs/BookJudged), and in any other the first that is broken (`first_broken` there).
use Rattle.std.specs.Prelude.{ℕ, ◌%◌, ◌≤◌, ◌<◌, ◌≡◌, ◌⊎◌, List, length}
use Rattle.refusals.specs.Order.{refusal}
use Rattle.refusals.specs.declared.rule.Rule.TheVariants.{WrongBook}
use Rattle.refusals.specs.declared.refusal.Refusal.{Refusal}
use Rattle.work_book.specs.Book.{window_length, most_book, window_count, event_place, end_place, window_event}
use Rattle.work_book.specs.Book.{first_hour, end_hour}

-- At most 256 windows, and no part of one.
pub record RightLength (n : ℕ) : Type 0 where
  pub most : n ≤ most_book
  pub whole : n % window_length ≡ 0

-- A book for E basic events. It may have no window.
pub record WellFormed (E : ℕ) (book : List ℕ) : Type 0 where
  pub right_length : RightLength (length book)
  -- each window is of an event below E, and ends after its first hour
  pub event_below : (i : ℕ) → i < window_count book → window_event book i < E
  pub end_after : (i : ℕ) → i < window_count book → first_hour book i < end_hour book i

-- A rule of a book for E basic events that is broken, and where. A book of a wrong length has no windows.
pub data Breaks (E : ℕ) (book : List ℕ) (q : Refusal) : Type 0 where
  -- the length is above 2,560, or no multiple of 10: at that length
  wrong_length : (most_book < length book) ⊎ (length book % window_length ≡ 0 → ⊥)
      → q ≡ refusal WrongBook (length book) → Breaks E book q
  -- window i is of an event that is not below E: at the event's first byte
  wrong_event : RightLength (length book) → (i : ℕ) → i < window_count book → E ≤ window_event book i
      → q ≡ refusal WrongBook (event_place i) → Breaks E book q
  -- window i has an end that is not after its first hour: at the end's first byte
  wrong_end : RightLength (length book) → (i : ℕ) → i < window_count book → end_hour book i ≤ first_hour book i
      → q ≡ refusal WrongBook (end_place i) → Breaks E book q
