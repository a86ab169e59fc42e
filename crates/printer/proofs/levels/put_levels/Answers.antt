-- The question's refusal, or the header and, level by level, the lines.
use Rattle.std.proofs.Common.{◌∙◌, arith}
use Rattle.std.proofs.lemmas.Result.{err_from_is_err_and}
use Rattle.printer.proofs.Lines.{ready_level, line_put, last_put}
use Rattle.printer.proofs.Holding.{question_refused, question_answered, held_ready, header_put}
use Rattle.printer.proofs.levels.put_levels.Goals as goal

pub returns-in_err-counts-clause-refusal : goal.returns-in_err-counts-clause-refusal
returns-in_err-counts-clause-refusal c =
    let p = err_from_is_err_and c.from_residual.result c.from_residual.ensures.1 in
    rw (p.1, p.2) (search (question_refused, c.in_err-counts.was))

pub loop-k-init : goal.loop-k-init
loop-k-init c =
    let ready = held_ready _ _ _ _ _ c.judge_level.ensures _ c.in_ok-counts.was in
    record {
      room = omega (arith, (ready_level _ _ _ _ ready).n_bounded);
      whole = search (header_put, c.in_ok-counts.was);
    }

pub invariant_of-report_at : goal.invariant_of-report_at
invariant_of-report_at c =
    let level = ready_level _ _ _ _ (held_ready _ _ _ _ _ c.judge_level.ensures _ c.in_ok-counts.was) in
    record { in_range = record { n_positive = level.n_positive; n_bounded = level.n_bounded; k_n = omega arith } }

pub report_at-report-requires : goal.report_at-report-requires
report_at-report-requires c = search (held_ready, c.in_ok-counts.was)

pub loop-k-preserved : goal.loop-k-preserved
loop-k-preserved c = record {
  room = omega arith;
  whole = search line_put ∙ c.loop-k.invariant.whole;
}

pub returns-in_ok-counts-2-clause-refusal : goal.returns-in_ok-counts-2-clause-refusal
returns-in_ok-counts-2-clause-refusal c = search (question_answered, c.in_ok-counts.was)

pub returns-in_ok-counts-2-clause-text : goal.returns-in_ok-counts-2-clause-text
returns-in_ok-counts-2-clause-text c = search last_put ∙ c.loop-k.invariant.whole
