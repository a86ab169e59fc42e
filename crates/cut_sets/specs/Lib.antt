-- The minimal cut sets of the held tree (02, request 1). The main contracts: `count::count_sets` answers
-- `count_outcome` of Judged; `list::list_sets` answers `reply_of` of Judged and leaves `SetsLeft` of Listed. What a
-- minimal cut set is, and what it is to have each once, is `MinimalCutSet` and `Enumerates` of theory; the set of a
-- number is `members` of node_sets. For inner contracts only: `count_standing` of Judged.
pub mod Judged
pub mod Listed
