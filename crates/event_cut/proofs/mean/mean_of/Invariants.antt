-- The sums are those over the experts passed.
use Rattle.std.specs.Prelude.{◌≡◌}
use Rattle.event_cut.specs.Opinion.{opinions_among}
use Rattle.event_cut.proofs.MeanOfOpinions.{sums_of}
use Rattle.event_cut.proofs.mean.mean_of.Given as goal

abbrev pub invariant-loop-expert : goal.invariant-loop-expert
invariant-loop-expert l = l.sums ≡ sums_of (opinions_among l.file l.terms l.expert)
