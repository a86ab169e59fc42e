-- The laws behind the contracts: the set of a number; links, and a node's sets by those of its inputs; how a gate's
-- count grows with its inputs; what is counted at a node; a set by its number; a family's sets spread over others, and
-- written with those of one input more; that a node's sets are its minimal cut sets, and its count how many there are
-- (Enumerated).
pub mod Bits
pub mod Links
pub mod LinkedSets
pub mod ChoiceTurn
pub mod Families
pub mod GateCounts
pub mod Growth
pub mod CountTurn
pub mod GateInputs
pub mod Parts
pub mod Spreading
pub mod BlockTurn
pub mod Written
pub mod InputWriting
pub mod Enumerated
