-- De Morgan's law of the two pairs, and the reply.
pub mod PairTurned
pub mod LawKept
pub mod Reply
