-- The monitor's answers as C gets them. The main contracts are those of the conversions: each struct is the C form of
-- what the monitor answers, `answer_for` of Answer, `standing_for` of Standing, `reply_for` of Reply, `count_for` and
-- `listing_for` of SetCount. `PromisesKept` of Reply is demands 2 and 3 as C reads them, `SliceLeft` of SetCount what a
-- listing leaves. Read in this order.
pub mod State
pub mod Refusal
pub mod Answer
pub mod Standing
pub mod Reply
pub mod SetCount
