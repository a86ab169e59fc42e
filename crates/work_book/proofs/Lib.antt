-- The judging of a book. Cases are computed by the prover.
pub mod BookJudged
pub mod SampleBooks
pub mod Cases
