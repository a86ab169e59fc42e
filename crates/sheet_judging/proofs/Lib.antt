-- The laws in the order of the argument: each part judged, what acceptance means, a file with the header of another,
-- and what a refusal means. Cases are computed by the prover.
pub mod HeaderLaws
pub mod ScoreLaws
pub mod TermLaws
pub mod EntryLaws
pub mod Accepted
pub mod HeaderKept
pub mod BrokenRules
pub mod Broken
pub mod Cases
