-- The laws of the evaluation, in the order of the argument: a node's end by its inputs', the
-- two phases and what they come to, one turn of each loop, and demands 2 and 3 of every node.
pub mod NodeEnds
pub mod FoldBounds
pub mod GatesDone
pub mod Evaluated
pub mod EventsTurn
pub mod GateTurn
pub mod GateParts
pub mod GatesTurn
pub mod NodePromises
pub mod Reporting
