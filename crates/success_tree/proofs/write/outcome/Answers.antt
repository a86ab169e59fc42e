-- One law for each return, and what the writing of each file asks.
use Rattle.std.proofs.Common.{sym, ap, Err, ◌∙◌}
use Rattle.std.proofs.lemmas.Result.{err_from_is_err_and}
use Rattle.success_tree.proofs.LawKept.{tree_length, sheet_length}
use Rattle.success_tree.proofs.Reply.{refused_by_pair, refused_by_room, tree_asked, sheet_asked, dual_all}
use Rattle.success_tree.proofs.write.outcome.Goals as goal

pub slice_bounds-write_tree-end : goal.slice_bounds-write_tree-end
slice_bounds-write_tree-end c =
    sym (tree_length _ _ _ _ (sym c.judge.ensures ∙ c.in_ok-counts.was))

pub slice_bounds-write_sheet-end : goal.slice_bounds-write_sheet-end
slice_bounds-write_sheet-end c =
    sym (sheet_length _ _ _ _ (sym c.judge.ensures ∙ c.in_ok-counts.was))

pub write_tree-requires : goal.write_tree-requires
write_tree-requires c =
    tree_asked _ _ _ _ c.args.sheet_buffer.now _ c.judge.ensures _ c.in_ok-counts.was c.if-not-room.false

pub write_sheet-requires : goal.write_sheet-requires
write_sheet-requires c =
    sheet_asked _ _ _ c.args.tree_buffer.now _ _ c.judge.ensures _ c.in_ok-counts.was c.if-not-room.false

pub returns-in_err-counts : goal.returns-in_err-counts
returns-in_err-counts c =
    let p = err_from_is_err_and c.from_residual.result c.from_residual.ensures.1 in
    let all =
    refused_by_pair _ _ _ _ _ _ c.judge.ensures _ c.in_err-counts.was _ (p.1 ∙ ap Err p.2) in
    record {
      value = all.0;
      tree_buffer_after = all.1.0;
      sheet_buffer_after = all.1.1.0;
      law_kept = all.1.1.1;
    }

pub returns-then-not-room : goal.returns-then-not-room
returns-then-not-room c =
    let all =
    refused_by_room _ _ _ _ _ _ c.judge.ensures _ c.in_ok-counts.was c.if-not-room.true _ c.at.ensures in
    record {
      value = all.0;
      tree_buffer_after = all.1.0;
      sheet_buffer_after = all.1.1.0;
      law_kept = all.1.1.1;
    }

pub returns : goal.returns
returns c =
    let all =
    dual_all _ _ _ _ _ _ c.judge.ensures _ c.in_ok-counts.was c.if-not-room.false _
    c.write_tree.ensures _ c.write_sheet.ensures in
    record {
      value = all.0;
      tree_buffer_after = all.1.0;
      sheet_buffer_after = all.1.1.0;
      law_kept = all.1.1.1;
    }
