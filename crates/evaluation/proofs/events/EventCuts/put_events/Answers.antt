-- One turn of the loop.
use Rattle.std.proofs.Common.{arith, rules}
use Rattle.work_slices.proofs.Turns.{reached_start, reached_next}
use Rattle.evaluation.proofs.EventsTurn.{event_long}
use Rattle.evaluation.proofs.events.EventCuts.put_events.Goals as goal

pub loop-i-init : goal.loop-i-init
loop-i-init c = record { same_slices = search rules; reached = reached_start _ _ _ }

pub put_event-requires-clause-long : goal.put_event-requires-clause-long
put_event-requires-clause-long c = event_long _ _ c.requires c.loop-i.invariant.reached (omega arith)

pub loop-i-preserved : goal.loop-i-preserved
loop-i-preserved c = record {
  same_slices = search rules;
  reached = reached_next c.loop-i.invariant.reached (omega arith) c.put_event.ensures.value;
}
