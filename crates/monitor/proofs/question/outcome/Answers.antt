-- The outcome, the slices and the promises, by the standing and by the slices' lengths.
use Rattle.std.proofs.Common.{sym, ap, ◌∙◌, length-take-le}
use Rattle.std.proofs.lemmas.Result.{err_from_is_err_and}
use Rattle.work_slices.specs.Slices.{contents}
use Rattle.held_pair.specs.Standing.{short_slice}
use Rattle.held_pair.proofs.Ready.{ready_pair}
use Rattle.monitor.proofs.Reply.{refused_by_judging, refused_by_slices, evaluable, answered_all}
use Rattle.monitor.proofs.question.outcome.Goals as goal

pub slice_bounds-tree-end : goal.slice_bounds-tree-end
slice_bounds-tree-end c =
    let pair = ready_pair _ _ _ _ _ _ (sym c.judge_level.ensures ∙ c.in_ok-counts.was) in
    sym (length-take-le _ _ pair.tree_inside)

pub slice_bounds-sheet-end : goal.slice_bounds-sheet-end
slice_bounds-sheet-end c =
    let pair = ready_pair _ _ _ _ _ _ (sym c.judge_level.ensures ∙ c.in_ok-counts.was) in
    sym (length-take-le _ _ pair.sheet_inside)

pub answered-requires-clause-evaluable : goal.answered-requires-clause-evaluable
answered-requires-clause-evaluable c =
    evaluable _ _ _ _ _ _ _ c.judge_level.ensures _ c.in_ok-counts.was _ (c.judge_slices.ensures ∙ ap (short_slice _) c.stored.ensures) c.in_ok-judge_slices.was

pub answered-requires-clause-counts_value : goal.answered-requires-clause-counts_value
answered-requires-clause-counts_value c =
    (ready_pair _ _ _ _ _ _ (sym c.judge_level.ensures ∙ c.in_ok-counts.was)).counts_is

pub invariant_of-answered : goal.invariant_of-answered
invariant_of-answered c =
    record { in_range = (ready_pair _ _ _ _ _ _ (sym c.judge_level.ensures ∙ c.in_ok-counts.was)).pair.level }

pub returns-in_err-counts-clause-value : goal.returns-in_err-counts-clause-value
returns-in_err-counts-clause-value c =
    let p = err_from_is_err_and c.from_residual.result c.from_residual.ensures.1 in
    rw (p.1, p.2)
    (refused_by_judging _ _ _ _ _ (contents c.args.slices.now) _ c.judge_level.ensures _ c.in_err-counts.was).0

pub returns-in_err-counts-clause-work_slices : goal.returns-in_err-counts-clause-work_slices
returns-in_err-counts-clause-work_slices c =
    (refused_by_judging _ _ _ _ _ (contents c.args.slices.now) _ c.judge_level.ensures _ c.in_err-counts.was).1.0

pub returns-in_err-judge_slices-clause-value : goal.returns-in_err-judge_slices-clause-value
returns-in_err-judge_slices-clause-value c =
    let r = c.from_residual-in_err-judge_slices in
    let p = err_from_is_err_and r.result r.ensures.1 in
    rw (p.1, p.2)
    (refused_by_slices _ _ _ _ _ (contents c.args.slices.now) _ c.judge_level.ensures _ c.in_ok-counts.was
    _ (c.judge_slices.ensures ∙ ap (short_slice _) c.stored.ensures) _ c.in_err-judge_slices.was).0

pub returns-in_err-judge_slices-clause-work_slices : goal.returns-in_err-judge_slices-clause-work_slices
returns-in_err-judge_slices-clause-work_slices c =
    (refused_by_slices _ _ _ _ _ (contents c.args.slices.now) _ c.judge_level.ensures _ c.in_ok-counts.was
    _ (c.judge_slices.ensures ∙ ap (short_slice _) c.stored.ensures) _ c.in_err-judge_slices.was).1.0

pub returns : goal.returns
returns c =
    let all =
    answered_all _ _ _ _ _ (contents c.args.slices.now) _ c.judge_level.ensures _ c.in_ok-counts.was
    _ (c.judge_slices.ensures ∙ ap (short_slice _) c.stored.ensures) c.in_ok-judge_slices.was _ c.answered.ensures.value _ c.answered.ensures.work_slices in
    record {
      value = all.0;
      same_slices = c.answered.ensures.same_slices;
      work_slices = all.1.0;
      promises_kept = all.1.1;
    }
