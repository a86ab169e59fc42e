-- The outcome, the buffer, the slices and the promises, by the standing and by what is lent.
use Rattle.std.proofs.Common.{refl, sym, ap, Err, ◌∙◌, length-take-le}
use Rattle.std.proofs.lemmas.Result.{err_from_is_err_and}
use Rattle.work_slices.specs.Slices.{contents}
use Rattle.held_pair.proofs.Ready.{ready_pair}
use Rattle.work_windows.proofs.Reply.{refused_by_judging, refused_by_lent, writable, answered_all}
use Rattle.work_windows.proofs.question.outcome.Goals as goal

pub slice_bounds-write_sheet-end : goal.slice_bounds-write_sheet-end
slice_bounds-write_sheet-end c =
    let pair = ready_pair _ _ _ _ _ _ (sym c.judge_level.ensures ∙ c.in_ok-counts.was) in
    sym (length-take-le _ _ pair.sheet_inside)

pub write_sheet-requires : goal.write_sheet-requires
write_sheet-requires c =
    writable _ _ _ c.args.at.book.now _ _ c.args.at.hour c.args.buffer.now (contents c.args.slices.now)
    _ c.judge_level.ensures _ c.in_ok-counts.was _ c.judge_lent.ensures c.in_ok-judge_lent.was

pub returns-in_err-counts : goal.returns-in_err-counts
returns-in_err-counts c =
    let p = err_from_is_err_and c.from_residual.result c.from_residual.ensures.1 in
    let all =
    refused_by_judging _ _ _ c.args.at.book.now _ _ c.args.at.hour c.args.buffer.now (contents c.args.slices.now)
    _ c.judge_level.ensures _ c.in_err-counts.was _ (p.1 ∙ ap Err p.2) in
    record {
      value = all.0;
      buffer_after = all.1.0;
      same_slices = record { same_lower = refl; same_upper = refl; same_marks = refl };
      work_slices = all.1.1.0;
      promises_kept = all.1.1.1;
    }

pub returns-in_err-judge_lent : goal.returns-in_err-judge_lent
returns-in_err-judge_lent c =
    let r = c.from_residual-in_err-judge_lent in
    let p = err_from_is_err_and r.result r.ensures.1 in
    let all =
    refused_by_lent _ _ _ c.args.at.book.now _ _ c.args.at.hour c.args.buffer.now (contents c.args.slices.now)
    _ c.judge_level.ensures _ c.in_ok-counts.was _ c.judge_lent.ensures _ c.in_err-judge_lent.was _ (p.1 ∙ ap Err p.2) in
    record {
      value = all.0;
      buffer_after = all.1.0;
      same_slices = record { same_lower = refl; same_upper = refl; same_marks = refl };
      work_slices = all.1.1.0;
      promises_kept = all.1.1.1;
    }

pub returns : goal.returns
returns c =
    let all =
    answered_all _ _ _ c.args.at.book.now _ _ c.args.at.hour c.args.buffer.now (contents c.args.slices.now)
    _ c.judge_level.ensures _ c.in_ok-counts.was _ c.judge_lent.ensures c.in_ok-judge_lent.was
    _ c.write_sheet.ensures _ c.question.ensures.value _ c.question.ensures.work_slices
    c.question.ensures.promises_kept in
    record {
      value = all.0;
      buffer_after = all.1.0;
      same_slices = c.question.ensures.same_slices;
      work_slices = all.1.1.0;
      promises_kept = all.1.1.1;
    }
