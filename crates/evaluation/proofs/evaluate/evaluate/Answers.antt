-- The second phase finds the events' ends, and the two report every node.
use Rattle.sheet_judging.proofs.Accepted.{well_formed_accepted}
use Rattle.evaluation.proofs.Reporting.{events_stored, reported}
use Rattle.evaluation.proofs.evaluate.evaluate.Goals as goal

pub put_gates-requires : goal.put_gates-requires
put_gates-requires c = events_stored c.requires c.args.level.in_range c.put_events.ensures.value

pub returns-clause-value : goal.returns-clause-value
returns-clause-value c =
    reported c.requires c.args.level.in_range c.put_events.ensures.value c.put_gates.ensures.value

pub invariant_of-cuts-clause-sheet_accepted : goal.invariant_of-cuts-clause-sheet_accepted
invariant_of-cuts-clause-sheet_accepted c = well_formed_accepted _ c.requires.sheet_well_formed
