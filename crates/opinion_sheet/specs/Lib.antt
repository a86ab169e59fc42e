-- The opinion sheet of document 01: the format, what each entry holds, and what a well-formed sheet is. The main
-- contract is that `entry::read_entry` answers `entry_of` (Entries).
pub mod Format
pub mod Entries
pub mod WellFormed
