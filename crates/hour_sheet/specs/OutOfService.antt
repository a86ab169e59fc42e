-- Which basic events are out of service at an hour.
use Rattle.std.specs.Prelude.{ℕ, zero, suc, ◌≤◌, ◌<◌, ◌≡◌, Bool, false, ◌&&◌, ◌||◌, List, eqb}
use Rattle.work_book.specs.Book.{window_count, window_event, first_hour, end_hour, open_at}

-- One of the first n windows has the event and is open: two that overlap count once.
unfoldable pub out_among : List ℕ → ℕ → ℕ → ℕ → Bool
out_among book hour zero event = false
out_among book hour (suc n) event =
    out_among book hour n event || (open_at book hour n && eqb (window_event book n) event)

-- One of all windows has it and is open.
abbrev pub out_of_service : List ℕ → ℕ → ℕ → Bool
out_of_service book hour event = out_among book hour (window_count book) event

-- A window that has the event and is open at the hour. There is one exactly where `out_of_service` is true
-- (`out_shows` and `shown_out` of proofs/OutOfService).
pub record OpenWindow (book : List ℕ) (hour event : ℕ) : Type 0 where
  pub window : ℕ
  pub inside : window < window_count book
  pub of_event : window_event book window ≡ event
  -- the first hour counts, the end hour does not
  pub begun : first_hour book window ≤ hour
  pub not_ended : hour < end_hour book window
