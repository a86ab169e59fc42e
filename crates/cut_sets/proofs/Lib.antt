-- The laws behind the contracts: the judging, and what the two calls answer.
pub mod Judging
pub mod Outcomes
