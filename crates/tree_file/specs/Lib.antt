-- The tree file of document 01: the format, what a well-formed file is, and its nodes. The main contract is that
-- `node::node_at` answers `read_node`. The main theorems of proofs/: `tree_opens` and `root_has_all_events` (Root).
-- `Requirements` stands for contracts only.
pub mod Format
pub mod Kind
pub mod Tallies
pub mod WellFormed
pub mod NodeTable
pub mod Requirements
