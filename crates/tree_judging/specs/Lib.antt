-- The rules of document 01's tree file in their order and each by itself. The main contract is that `judge::judge`
-- answers `judged`. The main theorems of proofs/: `accepted_well_formed` and `well_formed_accepted` (Accepted), and
-- `first_broken` (Broken). For inner contracts only: `Requirements`, `records_judged` of `Judged`.
pub mod HeaderRules
pub mod RecordRules
pub mod LinkRules
pub mod Judged
pub mod Broken
pub mod Requirements
