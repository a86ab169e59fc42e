-- The fold begins with the first input, takes one more in each turn, and answers with all.
use Rattle.std.proofs.Common.{lit<}
use Rattle.evaluation.proofs.GateTurn.{running_start, running_next, fold_answer}
use Rattle.evaluation.proofs.gate.gate_ends.Goals as goal

pub loop-j-init : goal.loop-j-init
loop-j-init c =
    running_start (lit< tt) c.requires.some_input c.seen_input-running.ensures.value
    c.seen_input-running.ensures.both_in_units

pub loop-j-preserved : goal.loop-j-preserved
loop-j-preserved c =
    running_next c.loop-j.invariant c.loop-j-test.true c.seen_input-factor.ensures.value
    c.step_ends-running.ensures.value
    c.step_ends-running.ensures.both_in_units

pub returns : goal.returns
returns c = fold_answer c.loop-j.invariant c.loop-j-test.false c.seen_ends.ensures.value
