-- The tree is refused, or ready with few events or with many.
use Rattle.std.proofs.Common.{arith}
use Rattle.std.proofs.lemmas.Result.{err_from_is_err_and}
use Rattle.cut_sets.proofs.Judging.{events_few, events_many, tree_refused}
use Rattle.cut_sets.proofs.judge.judge_events.Goals as goal

pub returns-in_err-counts : goal.returns-in_err-counts
returns-in_err-counts c =
    let p = err_from_is_err_and c.from_residual.result c.from_residual.ensures.1 in
    rw (p.1, p.2) (tree_refused _ _ _ c.judge.ensures _ c.in_err-counts.was)

pub returns-then-counts-gt-MOST_EVENTS : goal.returns-then-counts-gt-MOST_EVENTS
returns-then-counts-gt-MOST_EVENTS c =
    events_many _ _ _ c.judge.ensures _ c.in_ok-counts.was _ c.at.ensures c.if-counts-gt-MOST_EVENTS.true

pub returns : goal.returns
returns c =
    events_few _ _ _ c.judge.ensures _ c.in_ok-counts.was (omega (arith, c.if-counts-gt-MOST_EVENTS.false))
