-- What is held, and what a hand-in changes. The main contracts: `hand_in` answers `handed_answer` and leaves
-- `handed_store` of HandIn, which are `tree_answer` and `tree_store` for a tree, `sheet_answer` and `sheet_store` for a
-- sheet; `drop_both` answers `nothing_held`. Largest has how long a file that can be held is at most.
pub mod HandIn
pub mod Largest
