-- The rules of document 01's opinion sheet in their order and each by itself. The main contract is that `judge::judge`
-- answers `judged` (Judged), whatever the bytes. Two descriptions without the order of reading are held to it:
-- opinion_sheet's `WellFormed`, which the accepted files keep and no other (proofs/Accepted); and `Breaks` (Broken),
-- each rule broken at its place, of which a refusal is the first in document 01's order (proofs/Broken). `Requirements`
-- stands for contracts of inner functions only.
pub mod HeaderRules
pub mod ScoreRules
pub mod TermRules
pub mod EntryRules
pub mod Judged
pub mod Broken
pub mod Requirements
