pub mod Checksum
pub mod NoAnswer
pub mod Shown
