-- Fuzzy fault trees: what a reader must believe. Read the files in this order, beside paper 004 and document 01.
-- Nothing here knows of bytes or machine widths, and the unit U is a parameter.
-- The main theorems are in proofs/. Of every node of a table (NodePromised): `node_agrees` and `node_exact_ends` are
-- demand 2, `node_promised` and `node_contained` demand 3. `rounded` is what `IsRounded` says, and nothing else is:
-- `rounded_is_rounded`, `rounded_unique` (RoundingMeaning). A step's form of rounding is the same number, up it is what
-- `LeastReaching` says, and nothing else is: `rescaled_is_rounded`, `rescaled_up_is_least`, `least_is_rescaled_up`
-- (Rescaled). Where an expert's term is taken away, every cut of the mean is `Wider`: `silence_widens` (SilenceWidens).
-- De Morgan's law on what is reported: `dual_reported` (DeMorgan), of a table `node_dual_reported` (DualTable).
-- The examples: `examples_hold`, `examples_4_5_hold`, `road_trip_minimal_holds`. A tree's family is of its
-- minimal cut sets, and whatever else enumerates them has as many: `family_enumerates`, `enumerations_agree`
-- (CutSetsEnumerated).
-- GateFold stands for contracts inside evaluation only.
pub mod Fraction
pub mod FaultTree
pub mod Unreliability
pub mod BottomUp
pub mod Interval
pub mod Trapezoid
pub mod Opinion
pub mod Rounding
pub mod Promise
pub mod NodeTable
pub mod Dual
pub mod GateFold
pub mod MinimalCutSets
pub mod CutSetFamily
pub mod Unit
pub mod Examples
