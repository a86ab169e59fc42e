-- Whole units are cut with no denominator.
use Rattle.std.proofs.Common.{◌∙◌}
use lib.Dec.{lit<}
use Rattle.theory.specs.Unit.{billion}
use Rattle.event_cut.proofs.CutScaled.{cut_whole}
use Rattle.event_cut.proofs.cut.cut_numbers.Goals as goal

pub returns : goal.returns
returns c =
    c.cut_of.ensures ∙ rw c.into.ensures (cut_whole billion (lit< tt) c.args.x _ _ c.args.level.in_range.n_positive)
