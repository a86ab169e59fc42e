-- What the code reckons is what theory's Rounding defines: marks, quotients and steps.
pub mod Marks
pub mod Steps
pub mod Reckoned
