-- The loop over the levels: what is put so far, with the lines still to come, is the whole.
use Prim.Native.Nat.{ℕ, suc, ◌-◌, ◌≤◌, ◌<◌}
use native.Mathlib.Omega.{arith}
use mathlib.Core.Path.{◌≡◌, sym, ap, ◌∙◌}
use mathlib.Core.List.{List, ◌++◌, append_assoc, append-nil}
use Rattle.theory.specs.Unit.{billion}
use Rattle.tree_judging.specs.Judged.{counts_of}
use Rattle.event_cut.specs.Level.{IsLevel}
use Rattle.held_pair.specs.Standing.{held_tree}
use Rattle.monitor.specs.Question.{report_of}
use Rattle.held_files.specs.declared.state.State.{State}
use Rattle.monitor.specs.declared.question.Report.{Report}
use Rattle.held_pair.proofs.Ready.{ready_pair}
use Rattle.level_text.specs.Line.{level_line}
use Rattle.printer.specs.Text.{lines_below}
use Rattle.printer.specs.Held.{ReadyAt}

-- a pair is ready at a level
pub ready_level : (state : State) (tree_store sheet_store : List ℕ) (n : ℕ)
    → ReadyAt state tree_store sheet_store n → IsLevel n n
ready_level state tree_store sheet_store n ready =
    (ready_pair state tree_store sheet_store n n (counts_of (held_tree state tree_store)) ready).pair.level

module _ (tree sheet : List ℕ) (n k : ℕ) (report : Report) (r : report ≡ report_of billion tree sheet k n)
    (before after : List ℕ) (e : after ≡ before ++ level_line k report.ends) where
  abbrev line_here : List ℕ
  line_here = level_line k (report_of billion tree sheet k n).ends

  -- the line put is the level's
  own : after ≡ before ++ line_here
  own = e ∙ ap (λ (q : Report). before ++ level_line k q.ends) r

  -- with it the lines of the levels below are still to come
  pub line_put : 0 < k → after ++ lines_below tree sheet n (suc (k - 1)) ≡ before ++ lines_below tree sheet n (suc k)
  line_put l =
      let one : suc (k - 1) ≡ k = omega arith in
      ap (λ (xs : List ℕ). xs ++ lines_below tree sheet n (suc (k - 1))) own
      ∙ ap (λ (m : ℕ). (before ++ line_here) ++ lines_below tree sheet n m) one
      ∙ append_assoc before line_here (lines_below tree sheet n k)

  -- below level 0 none is to come
  pub last_put : k ≤ 0 → after ≡ before ++ lines_below tree sheet n (suc k)
  last_put l =
      let none : k ≡ 0 = omega arith in
      own
      ∙ ap (λ (xs : List ℕ). before ++ xs) (sym (append-nil line_here))
      ∙ ap (λ (m : ℕ). before ++ (line_here ++ lines_below tree sheet n m)) (sym none)
