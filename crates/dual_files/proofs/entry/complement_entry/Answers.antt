-- A well-formed file gives each callee what it asks.
use Rattle.std.proofs.Common.{sym, subst, ◌∙◌}
use Rattle.theory.specs.Unit.{billion}
use Rattle.theory.specs.Trapezoid.{Rising}
use Rattle.event_cut.specs.EventCut.{entry_trapezoid}
use Rattle.event_cut.proofs.EventRising.{event_rising, opinions_inside}
use Rattle.dual_files.proofs.entry.complement_entry.Goals as goal

pub mean_of-requires : goal.mean_of-requires
mean_of-requires c =
    opinions_inside _ c.requires.0 c.args.event c.requires.1 _ (sym c.read_entry.ensures ∙ c.in-Opinions.is)

pub missing_fractions-requires : goal.missing_fractions-requires
missing_fractions-requires c =
    let r =
    subst Rising (sym c.mean_of.ensures)
    (subst (λ y. Rising (entry_trapezoid billion c.args.sheet.now y)) (sym c.read_entry.ensures ∙ c.in-Opinions.is)
    (event_rising c.args.sheet.now c.requires.0 c.args.event c.requires.1)) in
    record { a_b = r.a_b; b_c = r.b_c; c_d = r.c_d; d_unit = r.d_den }
