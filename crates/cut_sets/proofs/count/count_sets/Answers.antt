-- What the judging finds, and what is counted.
use Rattle.std.proofs.Common.{sym}
use Rattle.std.proofs.Math.Seq.{length-take-le}
use Rattle.std.proofs.lemmas.Result.{err_from_is_err_and}
use Rattle.cut_sets.proofs.Outcomes.{count_answered, count_refused, nodes_positive, ready, root_small}
use Rattle.cut_sets.proofs.count.count_sets.Goals as goal

pub slice_bounds-tree-end : goal.slice_bounds-tree-end
slice_bounds-tree-end c = sym (length-take-le _ _ (ready _ _ _ c.judge_events.ensures _ c.in_ok-counts.was).inside)

pub overflow_sub-counts : goal.overflow_sub-counts
overflow_sub-counts c = nodes_positive _ _ _ c.judge_events.ensures _ c.in_ok-counts.was

pub count_at-requires : goal.count_at-requires
count_at-requires c = root_small _ _ _ c.judge_events.ensures _ c.in_ok-counts.was

pub returns-in_err-counts : goal.returns-in_err-counts
returns-in_err-counts c =
    let p = err_from_is_err_and c.from_residual.result c.from_residual.ensures.1 in
    rw (p.1, p.2) (count_refused _ _ _ c.judge_events.ensures _ c.in_err-counts.was)

pub returns : goal.returns
returns c = count_answered _ _ _ c.judge_events.ensures _ c.in_ok-counts.was _ c.count_at.ensures
