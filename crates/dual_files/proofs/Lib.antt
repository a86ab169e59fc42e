-- The bytes that are written, part by part; the dual tree and the sheet of the complements. Cases are computed by the
-- prover.
pub mod DualKind
pub mod EntryBytes
pub mod PartsTurn
pub mod TreeAsked
pub mod SheetAsked
pub mod TreeWritten
pub mod TreeAccepted
pub mod SheetWritten
pub mod SheetAccepted
pub mod Cases
