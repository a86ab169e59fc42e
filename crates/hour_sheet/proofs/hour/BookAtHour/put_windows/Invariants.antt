-- The windows passed are written.
use Rattle.std.proofs.Common.{◌≡◌}
use Rattle.theory.specs.Unit.{billion}
use Rattle.hour_sheet.specs.Writing.{windows_written}
use Rattle.hour_sheet.proofs.hour.BookAtHour.put_windows.Given as goal

abbrev pub invariant-loop-i : goal.invariant-loop-i
invariant-loop-i l = l.buffer ≡ windows_written billion l.self.book.now l.self.hour l.i l.initial.buffer
