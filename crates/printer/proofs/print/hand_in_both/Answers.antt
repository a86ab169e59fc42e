-- The tree's refusal, the sheet's, or what is put for both.
use Rattle.std.proofs.Common.{◌∙◌}
use Rattle.std.proofs.lemmas.Result.{IfOk-equal, err_from_is_err_and}
use Rattle.printer.proofs.Holding.{tree_refused, sheet_refused, rules_both, text_both}
use Rattle.printer.proofs.print.hand_in_both.Goals as goal

pub returns-in_err-with_tree-clause-refusal : goal.returns-in_err-with_tree-clause-refusal
returns-in_err-with_tree-clause-refusal c =
    let p = err_from_is_err_and c.from_residual.result c.from_residual.ensures.1 in
    rw (p.1, p.2) (search (tree_refused, c.in_err-with_tree.was))

pub returns-in_err-with_both-clause-refusal : goal.returns-in_err-with_both-clause-refusal
returns-in_err-with_both-clause-refusal c =
    let p = err_from_is_err_and c.from_residual-in_err-with_both.result c.from_residual-in_err-with_both.ensures.1 in
    rw (p.1, p.2) (search (sheet_refused, c.in_ok-with_tree.was, c.in_err-with_both.was))

pub returns-clause-refusal : goal.returns-clause-refusal
returns-clause-refusal c =
    c.put_levels.ensures.refusal ∙ search (rules_both, c.in_ok-with_tree.was, c.in_ok-with_both.was)

pub returns-clause-text : goal.returns-clause-text
returns-clause-text c =
    IfOk-equal _ _ _ _ c.put_levels.ensures.text
    (search (text_both, c.in_ok-with_tree.was, c.in_ok-with_both.was))
