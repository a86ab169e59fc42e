-- Whether a call can go on with what is held. The main contracts: `judge_level` answers `standing_of`,
-- `HeldTree::judge`, `HeldPair::judge` and `judge_slices` answer `tree_standing`, `pair_standing` and `short_slice`.
pub mod Standing
