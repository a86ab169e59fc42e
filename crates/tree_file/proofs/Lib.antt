-- What the nodes of a well-formed file are (Nodes, NodeTable), and that the tree opens node by node and the root has
-- every basic event (Root).
pub mod Tallies
pub mod Nodes
pub mod NodeTable
pub mod Root
