-- Demands 2 and 3 of the C reply, from monitor's; De Morgan's law of the C answer, from success_tree's; the slice after a C
-- listing, from cut_sets'.
pub mod Kept
pub mod LawKept
pub mod SliceLeft
