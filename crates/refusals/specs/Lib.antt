-- Document 01's refusals: the number of each rule, the order of the refusals, and the first fault of several rules in
-- their order. The main contract is that `rule::Rule::number` answers `number_of`. `Finds` is what each file crate's
-- judging is held to.
pub mod Number
pub mod Order
pub mod FirstFault
