-- The minimal cut sets of a node, as 64-bit numbers (02, request 1). The main contracts: `counting::count_beneath`
-- answers the count of the node's family and leaves `CountedBeneath`, `write_sets` of `counted::CountedNode` leaves
-- `Written`, both of Requirements; theory's `family_enumerates` says that the family is of the minimal cut sets. The
-- rest of Requirements and Counted stands for contracts inside this crate.
pub mod Numbers
pub mod Requirements
pub mod Counted
