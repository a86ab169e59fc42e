-- What judging a level answers C.
use Rattle.std.specs.Prelude.{Result, Ok, Err}
use Rattle.refusals.specs.declared.refusal.Refusal.{Refusal as Reason}
use Rattle.tree_judging.specs.declared.judgement.Counts.{Counts}
use Rattle.c_structs.specs.Refusal.{not_refused, refused_by}
use Rattle.c_structs.specs.declared.standing.Standing.{Standing}

-- The held tree's nodes and basic events, or the refusal with both 0: no tree that is ready has none of either.
abbrev pub standing_for : Result Counts Reason → Standing
standing_for (Ok counts) = record { refusal = not_refused; nodes = counts.nodes; events = counts.events }
standing_for (Err reason) = record { refusal = refused_by reason; nodes = 0; events = 0 }
