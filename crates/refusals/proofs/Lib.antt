-- The laws of the first fault, for whoever judges by rules; those of the order, and how the first fault is held to
-- it part by part, the header of a file first; and that no rule has number 0. Cases read the order out.
pub mod FirstFault
pub mod Rows
pub mod Order
pub mod Finds
pub mod Header
pub mod Numbered
pub mod Cases
