-- Work windows (02, request 4): the level of an hour, with each basic event that is out of service counted as failed.
-- The main contract is that of `question::question_at_hour`: it answers `hour_reply` and leaves `buffer_left` and
-- `hour_slices` of Question, and keeps demands 2 and 3 of the hour's sheet as monitor's `PromisesKept` says them.
pub mod Question
