-- A level's answer, and the loop over the levels; the files that are held and handed in; the length of a front, for
-- callers. Cases are computed by the prover.
mod Answers
mod Lines
mod Holding
pub mod TextLength
pub mod Cases
