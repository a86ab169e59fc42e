-- The success tree of the held pair (02, request 6, which calls it the mirror). The main contract is that of
-- `write::write_success_tree`: it answers `reply_of` and leaves `tree_left` and `sheet_left` of Reply, and keeps De
-- Morgan's law on what is reported as `LawKept` of Law says it. Read in this order.
pub mod Reply
pub mod Law
