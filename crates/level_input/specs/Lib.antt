-- The input of the level printer. The main contract: `files_of` answers the two files of a `well_framed` input.
pub mod Input
