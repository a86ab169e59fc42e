-- The hour's sheet, and the rest of the buffer.
use Rattle.hour_sheet.proofs.WindowsTurn.{hour_written}
use Rattle.hour_sheet.proofs.hour.BookAtHour.write_sheet.Goals as goal

pub returns : goal.returns
returns c = hour_written _ _ _ c.requires _ c.copy.ensures.copied _ _ c.put_windows.ensures
