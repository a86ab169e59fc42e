-- What is put so far, with the lines still to come, is the whole.
use Rattle.std.proofs.Common.{◌≡◌, suc, ◌+◌, ◌*◌, ◌≤◌, ◌++◌, length}
use Rattle.held_pair.specs.Standing.{held_tree, held_sheet}
use Rattle.level_text.specs.Line.{most_line}
use Rattle.printer.specs.Text.{lines_below, levels_text}
use Rattle.level_text.specs.Room.{most_text}
use Rattle.printer.proofs.levels.put_levels.Given as goal

abbrev pub invariant-loop-k : goal.invariant-loop-k
invariant-loop-k l =
    let tree = held_tree l.held.state l.held.tree_store.now in
    let sheet = held_sheet l.held.state l.held.sheet_store.now in
    record {
      room : length l.draft + most_line * (l.k + 1) ≤ most_text;
      whole : l.draft ++ lines_below tree sheet l.n (suc l.k) ≡ levels_text tree sheet l.n;
    }
