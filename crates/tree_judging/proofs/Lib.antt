-- The laws behind the contracts; what an accepted file is (Accepted), and which rule a refused one breaks first
-- (Broken). Cases are computed by the prover.
pub mod HeaderTests
pub mod HeaderLaws
pub mod RecordTests
pub mod RecordLaws
pub mod RecordsTurn
pub mod LinkLaws
pub mod LinksTurn
pub mod JudgedParts
pub mod Accepted
pub mod BrokenRules
pub mod Broken
pub mod Cases
