-- The gate's inputs have their places, before it.
use Rattle.evaluation.proofs.GateParts.{gate_stored}
use Rattle.evaluation.proofs.gates.put_gate.Goals as goal

pub gate_enclosure-ends-requires : goal.gate_enclosure-ends-requires
gate_enclosure-ends-requires c = gate_stored c.requires c.in-Gate.ensures
