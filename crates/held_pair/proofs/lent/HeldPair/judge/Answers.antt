-- One law of the standing for each return.
use Rattle.std.proofs.lemmas.Result.{err_from_is_err_and}
use Rattle.held_pair.proofs.Standing.{pair_no_tree, pair_no_sheet, pair_tree_changed, pair_sheet_changed}
use Rattle.held_pair.proofs.Standing.{pair_other, pair_ready}
use Rattle.held_pair.proofs.lent.HeldPair.judge.Goals as goal

pub returns-then-self-eq0 : goal.returns-then-self-eq0
returns-then-self-eq0 c = pair_no_tree _ _ _ _ c.at.ensures c.if-self-eq0.true

pub returns-then-self-eq0-2 : goal.returns-then-self-eq0-2
returns-then-self-eq0-2 c =
    pair_no_sheet _ _ _ c.if-self-eq0.false _ c.at-then-self-eq0-2.ensures c.if-self-eq0-2.true

pub returns-in_err-tree : goal.returns-in_err-tree
returns-in_err-tree c =
    let p = err_from_is_err_and c.from_residual.result c.from_residual.ensures.1 in
    rw (p.1, p.2)
    (pair_tree_changed _ _ _ c.if-self-eq0.false c.if-self-eq0-2.false _ c.judge_held.ensures _ c.in_err-tree.was)

pub returns-in_err-sheet : goal.returns-in_err-sheet
returns-in_err-sheet c =
    let p = err_from_is_err_and c.from_residual-in_err-sheet.result c.from_residual-in_err-sheet.ensures.1 in
    rw (p.1, p.2)
    (pair_sheet_changed _ _ _ c.if-self-eq0.false c.if-self-eq0-2.false _ c.judge_held.ensures
    _ c.in_ok-tree.was _ c.judge_held-2.ensures _ c.in_err-sheet.was)

pub returns-then-not-fits : goal.returns-then-not-fits
returns-then-not-fits c =
    pair_other _ _ _ c.if-self-eq0.false c.if-self-eq0-2.false _ c.judge_held.ensures
    _ c.in_ok-tree.was _ c.judge_held-2.ensures _ c.in_ok-sheet.was _ c.fits.ensures
    c.if-not-fits.true _ c.at-then-not-fits.ensures

pub returns : goal.returns
returns c =
    pair_ready _ _ _ c.if-self-eq0.false c.if-self-eq0-2.false _ c.judge_held.ensures
    _ c.in_ok-tree.was _ c.judge_held-2.ensures _ c.in_ok-sheet.was _ c.fits.ensures
    c.if-not-fits.false
