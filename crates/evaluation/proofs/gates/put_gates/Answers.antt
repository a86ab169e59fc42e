-- One turn of the loop.
use Rattle.std.proofs.Common.{arith, lit<, rules}
use Rattle.theory.specs.Unit.{billion}
use Rattle.work_slices.proofs.Turns.{reached_start}
use Rattle.evaluation.proofs.GatesTurn.{gate_asked, gates_next}
use Rattle.evaluation.proofs.gates.put_gates.Goals as goal

pub loop-place-init : goal.loop-place-init
loop-place-init c = record { same_slices = search rules; reached = reached_start _ _ _ }

pub put_gate-requires : goal.put_gate-requires
put_gate-requires c =
    gate_asked billion (lit< tt) _ _ c.loop-place.invariant.reached (omega arith) c.node_in_order-i.ensures c.requires

pub loop-place-preserved : goal.loop-place-preserved
loop-place-preserved c = record {
  same_slices = search rules;
  reached =
      gates_next billion (lit< tt) _ _ c.loop-place.invariant.reached (omega arith) c.node_in_order-i.ensures
      c.put_gate.ensures.value;
}
