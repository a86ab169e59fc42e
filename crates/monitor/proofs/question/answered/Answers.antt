-- What the root's place holds is the report.
use Rattle.monitor.proofs.Answer.{report_counted, root_placed}
use Rattle.monitor.proofs.question.answered.Goals as goal

pub ends-ends-requires : goal.ends-ends-requires
ends-ends-requires c =
    root_placed _ _ _ _ _ c.requires.evaluable c.args.level.in_range _ c.evaluate.ensures.value _ c.requires.counts_value

pub returns-clause-value : goal.returns-clause-value
returns-clause-value c =
    report_counted _ _ _ _ _ c.requires.evaluable c.args.level.in_range _ c.evaluate.ensures.value _
    c.requires.counts_value _ c.ends-ends.ensures
