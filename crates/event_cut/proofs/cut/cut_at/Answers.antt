-- A well-formed file gives each callee what it asks.
use Rattle.std.proofs.Common.{sym, ◌∙◌, subst}
use lib.Dec.{lit<}
use Rattle.theory.specs.Unit.{billion}
use Rattle.event_cut.specs.Requirements.{Cuttable}
use Rattle.opinion_sheet.proofs.EntriesRead.{entry_opinions}
use Rattle.event_cut.proofs.EventRising.{opinions_cuttable, opinions_inside}
use Rattle.event_cut.proofs.cut.cut_at.Goals as goal

pub mean_of-requires : goal.mean_of-requires
mean_of-requires c =
    opinions_inside _ c.requires.0 c.args.event c.requires.1 _ (sym c.read_entry.ensures ∙ c.in-Opinions.is)

pub cut_of-requires : goal.cut_of-requires
cut_of-requires c =
    let file = c.requires.0 in
    let read = sym c.read_entry.ensures ∙ c.in-Opinions.is in
    let opinions = (entry_opinions _ billion c.args.event (file.entry _ c.requires.1) read).1 in
    subst (Cuttable billion billion) (sym c.mean_of.ensures)
    (opinions_cuttable _ billion (lit< tt) file.scores file.header.experts_most _ opinions)
