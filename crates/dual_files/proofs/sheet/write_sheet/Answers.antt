-- The sheet with the complement entries in place of its own is the dual one.
use Rattle.std.proofs.Common.{ap, length, drop, ◌++◌, ◌∙◌}
use Rattle.fields.specs.Fields.{with_parts}
use Rattle.dual_files.specs.Sheet.{complement_entry, complement_sheet}
use Rattle.dual_files.proofs.sheet.write_sheet.Goals as goal

pub returns : goal.returns
unfolding complement_sheet
returns c =
    let sheet = c.args.sheet.now in
    c.write_with_parts.ensures (complement_entry sheet) (λ shown same i l word given. given ∙ ap (λ file. complement_entry file i) same)
    ∙ ap (λ n. with_parts 26 17 (complement_entry sheet) n sheet ++ drop (length sheet) c.args.buffer.now) c.requires.events_is
