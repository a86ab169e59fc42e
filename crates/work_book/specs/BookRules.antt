-- The rules of a book, all of them refusal 29: its length, then its windows in their order, of each first the event and
-- then the end.
use Rattle.std.specs.Prelude.{ℕ, ◌%◌, Bool, ◌&&◌, List, [], ◌∷◌, length, leb, ltb, eqb}
use Rattle.refusals.specs.declared.rule.Rule.TheVariants.{WrongBook}
use Rattle.refusals.specs.FirstFault.{FirstFault, unless, first_of, first_among}
use Rattle.work_book.specs.Book.{window_length, most_book, window_count, event_place, end_place, window_event}
use Rattle.work_book.specs.Book.{first_hour, end_hour}

-- A length of at most 2,560 bytes that is a multiple of a window's.
abbrev pub length_rule : ℕ → Bool
length_rule n = leb n most_book && eqb (n % window_length) 0

-- The faults of a window, in order: an event that is not below E, an end that is not after the first hour.
abbrev pub window_rules : ℕ → List ℕ → ℕ → List FirstFault
window_rules E book i =
    unless (ltb (window_event book i) E) WrongBook (event_place i)
    ∷ unless (ltb (first_hour book i) (end_hour book i)) WrongBook (end_place i)
    ∷ []

-- The first of them.
abbrev pub window_fault : ℕ → List ℕ → ℕ → FirstFault
window_fault E book i = first_of (window_rules E book i)

-- The faults of a book for E basic events, in order: its length, and the windows, rising.
abbrev pub book_rules : ℕ → List ℕ → List FirstFault
book_rules E book =
    unless (length_rule (length book)) WrongBook (length book)
    ∷ first_among (window_fault E book) (window_count book)
    ∷ []

-- The first of them.
unfoldable pub book_fault : ℕ → List ℕ → FirstFault
book_fault E book = first_of (book_rules E book)
