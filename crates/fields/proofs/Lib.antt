-- The fields of a part of a file; of two files with the same bytes; of a number that is written as its bytes; and parts
-- of a file joined.
pub mod Parts
pub mod Alike
pub mod Written
pub mod Joined
