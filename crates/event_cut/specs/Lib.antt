-- The cut of a basic event. The main contract is that `cut::cut_at` answers `cut_at` (EventCut), the reported cut of an
-- event at a level. Where a listed expert's term is put to 0, the event's cut is wider at every level:
-- `withdrawn_wider` (proofs/TermWithdrawn). Mean and Requirements stand for contracts of inner functions only.
pub mod Level
pub mod Opinion
pub mod Mean
pub mod EventCut
pub mod Requirements
