-- The files of what must work (02, request 6, which calls them the mirror). The main contracts: `write_tree` leaves
-- `dual_tree` of Tree at the front of its buffer, `write_sheet` leaves `complement_sheet` of Sheet. Writing stands for
-- the contracts of functions inside this crate alone.
pub mod Tree
pub mod Sheet
pub mod Writing
