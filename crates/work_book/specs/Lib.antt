-- The book of work windows (02, request 4): the format, and its rules in their order and each by itself. The main
-- contract: `judge_book` answers `book_fault` of BookRules. Read in this order.
pub mod Book
pub mod BookRules
pub mod WellFormed
