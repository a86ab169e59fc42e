-- What a hand-in answers and leaves in its store, and the largest lengths.
pub mod HandIn
pub mod Largest
