-- The book of work windows (02, request 4): where each field of a window stands, and which windows are open at an hour.
-- Hours are counted since commissioning. A byte past the book's end would read as 0 (fields' `byte`), which decides
-- nothing: no field is read past the windows that the book's length gives.
use Rattle.std.specs.Prelude.{ℕ, ◌+◌, ◌*◌, ◌/◌, Bool, ◌&&◌, List, length, leb, ltb}
use Rattle.fields.specs.Fields.{field16, field32}
use Rattle.work_book.specs.declared.book.Window.{Window}

-- The length in bytes of a window, and the most windows of a book.
abbrev pub window_length : ℕ
window_length = 10

abbrev pub most_windows : ℕ
most_windows = 256

-- The most bytes of a book: 2,560.
abbrev pub most_book : ℕ
most_book = window_length * most_windows

-- The number of windows. A length that is no multiple of a window's is refused before a window is read.
abbrev pub window_count : List ℕ → ℕ
window_count book = length book / window_length

-- Where the fields of a window stand: the 16-bit event, the 32-bit first hour and the 32-bit end hour.
abbrev pub event_place : ℕ → ℕ
event_place i = window_length * i

abbrev pub first_place : ℕ → ℕ
first_place i = window_length * i + 2

abbrev pub end_place : ℕ → ℕ
end_place i = window_length * i + 6

-- The basic event that is out of service in a window.
abbrev pub window_event : List ℕ → ℕ → ℕ
window_event book i = field16 book (event_place i)

abbrev pub first_hour : List ℕ → ℕ → ℕ
first_hour book i = field32 book (first_place i)

abbrev pub end_hour : List ℕ → ℕ → ℕ
end_hour book i = field32 book (end_place i)

-- The fields of a window, as they are read.
abbrev pub window_at : List ℕ → ℕ → Window
window_at book i = record { event = window_event book i; first = first_hour book i; end = end_hour book i }

-- A window is open at an hour: the first hour counts, the end hour does not.
abbrev pub open_in : Window → ℕ → Bool
open_in window hour = leb window.first hour && ltb hour window.end

abbrev pub open_at : List ℕ → ℕ → ℕ → Bool
open_at book hour i = open_in (window_at book i) hour
