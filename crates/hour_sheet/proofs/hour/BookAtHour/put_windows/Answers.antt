-- One turn of the loop, by whether the window is open.
use Rattle.std.proofs.Common.{sym, ◌∙◌}
use Rattle.theory.specs.Unit.{billion}
use Rattle.hour_sheet.proofs.WindowsTurn.{window_opened, window_shut, written_more}
use Rattle.hour_sheet.proofs.hour.BookAtHour.put_windows.Goals as goal
use Rattle.hour_sheet.proofs.hour.BookAtHour.put_windows.Goals.{then-is_open, else-is_open}

pub loop-i-preserved : goal.loop-i-preserved
loop-i-preserved c =
    written_more _ _ _ _ _ _ c.loop-i.invariant _ (elim c.if-is_open.branch [
      | then-is_open w ↦
          rw w.buffer-is
          (window_opened billion _ _ _ _ _ c.window_at-window.ensures (sym c.is_open.ensures ∙ w.if-is_open.true) _
          w.put_certain.ensures)
      | else-is_open w ↦
          rw w.buffer-is
          (window_shut billion _ _ _ _ _ c.window_at-window.ensures (sym c.is_open.ensures ∙ w.if-is_open.false))
    ])
