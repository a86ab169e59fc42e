use Rattle.std.proofs.lemmas.Result.{err_from_is_err_and}
use Rattle.held_stores.proofs.HandIn.{tree_refused, sheet_refused, both_held}
use Rattle.held_stores.proofs.held.Held.pair.Goals as goal

pub returns-in_err-hand_in_tree-clause-refused : goal.returns-in_err-hand_in_tree-clause-refused
returns-in_err-hand_in_tree-clause-refused c =
    let p = err_from_is_err_and c.from_residual.result c.from_residual.ensures.1 in
    let nothing = c.nothing-held.ensures in
    rw (p.1, p.2) (tree_refused _ _ _ _ (rw (nothing.state, nothing.tree) at c.in_err-hand_in_tree.ensures.answer))

pub returns-in_err-hand_in_sheet-clause-refused : goal.returns-in_err-hand_in_sheet-clause-refused
returns-in_err-hand_in_sheet-clause-refused c =
    let p = err_from_is_err_and c.from_residual-in_err-hand_in_sheet.result c.from_residual-in_err-hand_in_sheet.ensures.1 in
    let nothing = c.nothing-held.ensures in
    let tree = c.in_ok-hand_in_tree.ensures in
    rw (p.1, p.2)
    (sheet_refused _ _ _ (rw (nothing.state, nothing.tree) at tree.answer) _ _
    (rw (tree.sheet, nothing.sheet) at c.in_err-hand_in_sheet.ensures.answer))

pub returns-clause-held : goal.returns-clause-held
returns-clause-held c =
    let nothing = c.nothing-held.ensures in
    let tree = c.in_ok-hand_in_tree.ensures in
    let sheet = c.in_ok-hand_in_sheet.ensures in
    rw (sheet.tree, tree.tree, nothing.tree, sheet.sheet, tree.sheet, nothing.sheet)
    (both_held _ _ _ (rw (nothing.state, nothing.tree) at tree.answer) _
    (rw (tree.sheet, nothing.sheet) at sheet.answer))
