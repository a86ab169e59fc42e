-- Which events are out of service; the entries and the sheet that are written, and how one window after the other leads
-- there; that this sheet is accepted, and an event that is out of service certain. Cases are computed by the prover.
pub mod OutOfService
pub mod EntriesWritten
pub mod SheetWritten
pub mod WindowsTurn
pub mod Accepted
pub mod Certain
pub mod Cases
