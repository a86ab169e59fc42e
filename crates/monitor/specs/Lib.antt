-- The monitor of document 01. The main contract: `question` answers `reply_of` and leaves `slices_left` of Question,
-- and keeps demands 2 and 3 as `PromisesKept` of Promise says them. Read in this order.
pub mod Question
pub mod Promise
