-- One turn of the loop, and what follows where it ends.
use Rattle.std.proofs.Common.{arith}
use Rattle.std.proofs.lemmas.Result.{err_from_is_err_and}
use Rattle.tree_judging.proofs.RecordsTurn.{event_more, gate_more, inputs_missing, records_accepted, records_none}
use Rattle.tree_judging.proofs.RecordsTurn.{records_stop}
use Rattle.tree_judging.proofs.sized.SizedFile.judge_records.Goals as goal
use Rattle.tree_judging.proofs.sized.SizedFile.judge_records.Goals.{then-kind, else-kind}

pub loop-i-init : goal.loop-i-init
loop-i-init c = records_none _ _

pub returns-in_err-judge_record : goal.returns-in_err-judge_record
returns-in_err-judge_record c =
    let p = err_from_is_err_and c.from_residual.result c.from_residual.ensures.1 in
    rw (p.1, p.2)
    (records_stop _ _ _ _ _ c.args.self.sized c.loop-i.invariant (omega arith) _ c.judge_record.ensures _
    (c.in_err-judge_record.was))

pub loop-i-preserved : goal.loop-i-preserved
loop-i-preserved c =
    elim c.if-kind.branch [
      | then-kind w ↦
          rw (w.events-is, w.inputs-is)
          (event_more _ _ _ _ _ c.args.self.sized c.loop-i.invariant (omega arith) _ c.judge_record.ensures
          c.in_ok-judge_record.was _ c.kind.ensures w.if-kind.true)
      | else-kind w ↦
          rw (w.events-is, w.inputs-is)
          (gate_more _ _ _ _ _ c.args.self.sized c.loop-i.invariant (omega arith) _ c.judge_record.ensures
          c.in_ok-judge_record.was _ c.kind.ensures _ w.field-inputs.ensures w.if-kind.false)
    ]

pub returns-then-inputs-self : goal.returns-then-inputs-self
returns-then-inputs-self c = search inputs_missing

pub returns : goal.returns
returns c = search records_accepted
