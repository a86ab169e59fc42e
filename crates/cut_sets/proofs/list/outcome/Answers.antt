-- What the judging finds, and what is listed.
use Rattle.std.proofs.Common.{sym}
use Rattle.std.proofs.Math.Seq.{length-take-le}
use Rattle.std.proofs.lemmas.Result.{err_from_is_err_and}
use Rattle.cut_sets.proofs.Outcomes.{list_answered, list_refused, nodes_positive, ready, root_is, root_small}
use Rattle.cut_sets.proofs.list.outcome.Goals as goal

pub slice_bounds-tree-end : goal.slice_bounds-tree-end
slice_bounds-tree-end c = sym (length-take-le _ _ (ready _ _ _ c.judge_events.ensures _ c.in_ok-counts.was).inside)

pub overflow_sub-counts : goal.overflow_sub-counts
overflow_sub-counts c = nodes_positive _ _ _ c.judge_events.ensures _ c.in_ok-counts.was

pub listed-requires-clause-small : goal.listed-requires-clause-small
listed-requires-clause-small c = root_small _ _ _ c.judge_events.ensures _ c.in_ok-counts.was

pub listed-requires-clause-root_value : goal.listed-requires-clause-root_value
listed-requires-clause-root_value c = root_is _ _ _ c.judge_events.ensures _ c.in_ok-counts.was

pub returns-in_err-counts-clause-value : goal.returns-in_err-counts-clause-value
returns-in_err-counts-clause-value c =
    let p = err_from_is_err_and c.from_residual.result c.from_residual.ensures.1 in
    rw (p.1, p.2) (list_refused _ _ _ c.judge_events.ensures _ _ c.in_err-counts.was)

pub returns-clause-value : goal.returns-clause-value
returns-clause-value c =
    list_answered _ _ _ c.judge_events.ensures _ c.in_ok-counts.was _ _ c.listed.ensures.value
