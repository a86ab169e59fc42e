-- The calls for C. Each answers the C form (c_structs) of what monitor's definition gives, and leaves in every lent
-- slice what that definition says: `nekbrod_hand_in_tree` and `nekbrod_hand_in_sheet` answer `answer_for`,
-- `nekbrod_drop_both` answers `state_of`, `nekbrod_judge` answers `standing_for`, `nekbrod_question` answers
-- `reply_for` and keeps demands 2 and 3 as `PromisesKept` says them of the C reply. `nekbrod_question_at_hour` answers
-- the same form of work_windows' `hour_reply`, with `PromisesKept` of the hour's sheet. `nekbrod_count_cut_sets` and
-- `nekbrod_list_cut_sets` answer the C form of what cut_sets' definitions give, `count_for` and `listing_for`, and a
-- listing leaves the lent slice as `SliceLeft` says. `nekbrod_mirror` answers `answer_for` of what success_tree's
-- definitions give, and keeps De Morgan's law as `LawKept` of Mirror says. `nekbrod_version` answers `version` of
-- Version. No definition stands for an inner contract alone.
pub mod Mirror
pub mod Version
