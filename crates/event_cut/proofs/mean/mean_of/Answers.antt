-- The sums are those over the experts passed, and leave room for one opinion more.
use Rattle.std.proofs.Common.{◌∙◌, ◌≡◌, ◌+◌, ◌<◌, ◌≤◌, arith}
use Rattle.opinion_sheet.specs.Format.{expert_count}
use Rattle.event_cut.proofs.MeanOfOpinions.{sums_more, sums_room}
use Rattle.event_cut.proofs.mean.mean_of.Goals as goal

pub with_said-sums-requires : goal.with_said-sums-requires
with_said-sums-requires c =
    let listed : c.loop-expert.expert < expert_count c.args.file.now = omega (arith, c.expert_count-experts.ensures.0) in
    let most : c.byte_at-term.result ≤ 7 = omega (arith, c.requires.term_most _ listed, c.byte_at-term.ensures.0) in
    rw c.loop-expert.invariant
    (most, sums_room _ _ _ _ _ (omega arith) (λ j. omega (arith, c.type_inv.file (10 + j))) most (omega arith))

pub loop-expert-preserved : goal.loop-expert-preserved
loop-expert-preserved c =
    let listed : c.loop-expert.expert < expert_count c.args.file.now = omega (arith, c.expert_count-experts.ensures.0) in
    c.with_said-sums.ensures
    ∙ rw (c.loop-expert.invariant, c.byte_at-term.ensures.0, c.byte_at-score.ensures.0)
    (sums_more _ _ _ (c.requires.term_most _ listed))

pub mean_by-requires : goal.mean_by-requires
mean_by-requires c =
    let all : c.loop-expert.expert ≡ expert_count c.args.file.now = omega (arith, c.expert_count-experts.ensures.0) in
    rw (c.loop-expert.invariant, all) c.requires.score_least
