-- The evaluation of a level: every node's ends and marks. The main contract is that of `evaluate::evaluate`: it leaves
-- `slices_after` of Report in the work slices. In the order of the argument: what is reported in them, the two phases
-- that put it there, what each function asks. Phases, and Requirements but for `Evaluable` and
-- `Pair`, stand for contracts inside this crate only: a reader of `evaluate` can pass them over.
pub mod Report
pub mod Phases
pub mod Requirements
