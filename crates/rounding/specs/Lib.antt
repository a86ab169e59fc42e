-- Ends as the code holds them. The main contracts are those of `divide::divided` and `step::step`: the code reckons
-- what theory's Rounding defines, in billionths. Those of `mark` say how a byte holds two marks. `upward`,
-- `InUnits` and `BothInUnits` stand for contracts inside this crate and evaluation only.
pub mod Ends
pub mod Marks
