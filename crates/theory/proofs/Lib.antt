-- What follows from specs/, in the order of the argument. The main theorems are in `ReportedEnds`, on tables of
-- nodes in `NodePromised`, and on minimal cut sets in `CutSetsEnumerated`.
-- Lists and fractions.
pub mod Missing
pub mod Sums
pub mod Distinct
pub mod Each
pub mod FractionOrder
pub mod FractionEqual
-- Demand 2: the sum over all cut sets is the bottom-up reckoning, and so are the ends of the alpha-cut.
pub mod BottomUpProbability
pub mod Expectation
pub mod ExpectationProduct
pub mod ExpectationRises
pub mod CutSetSum
pub mod StructureFunction
pub mod TestHolds
pub mod EventHolds
pub mod UnreliabilityIsBottomUp
pub mod UnreliabilityRises
pub mod CutIsBottomUp
pub mod CutOrdered
pub mod MeanRising
pub mod CutWider
pub mod SilenceWidens
-- Demand 3: the rounded ends.
pub mod Gap
pub mod GapProduct
pub mod Outward
pub mod RoundingMeaning
pub mod Rescaled
pub mod Rounded
pub mod RoundedGate
pub mod RoundedTree
pub mod Promised
pub mod ReportedEnds
-- Tables of nodes and links.
pub mod LinkedSums
pub mod TreeOf
pub mod Counting
pub mod DistinctEvents
pub mod OneRoot
pub mod GateFold
pub mod LinksBelow
pub mod NodePromised
-- The dual tree: De Morgan's law on what is reported.
pub mod DeMorgan
pub mod DualTable
-- Minimal cut sets: those of a gate from those of its inputs (`family_enumerates`), and how many there are
-- (`enumerations_agree`).
pub mod MinimalSets
pub mod MinimalFamilies
pub mod Pigeonhole
pub mod CutSetsEnumerated
pub mod CutSetCount
pub mod NodeFamily
pub mod FamilyGrowth
-- The table of examples.
pub mod ExamplesHold
