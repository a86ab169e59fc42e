-- The judging of what is held, rule by rule, and what a pair that is ready is.
pub mod Standing
pub mod Ready
