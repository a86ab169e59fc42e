-- The entry that was copied stands at its place.
use Rattle.std.proofs.Common.{◌+◌, ◌*◌}
use Rattle.fields.proofs.Parts.{copied_at}
use Rattle.hour_sheet.proofs.sheet.put_certain.Goals as goal

pub returns : goal.returns
returns c =
    rw c.certain_entry.ensures at
    (copied_at c.args.buffer.now c.certain_entry.result (26 + 17 * c.args.event) c.copy.new.to c.copy.ensures.copied)
