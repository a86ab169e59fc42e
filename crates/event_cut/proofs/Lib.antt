-- The laws in the order of the argument: the mean, the cut, and a term that is taken away. Cases are computed by the
-- prover.
pub mod MeanOfOpinions
pub mod EventRising
pub mod CutBounds
pub mod CutScaled
pub mod TermWithdrawn
pub mod Cases
