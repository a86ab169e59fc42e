-- The answer by what taking in the file came to.
use Rattle.held_files.proofs.HandIn.{answered_refused, answered_taken}
use Rattle.held_files.proofs.hand_in.hand_in.Goals as goal

pub returns-in-Ok-clause-value : goal.returns-in-Ok-clause-value
returns-in-Ok-clause-value g c =
    rw c.holding.ensures
    (answered_taken _ _ _ c.args.state (λ n. g.F.HeldFile.holding n c.args.state) _ c.take_in.ensures.value _ c.in-Ok.is)

pub returns-in-Err-clause-value : goal.returns-in-Err-clause-value
returns-in-Err-clause-value g c =
    answered_refused _ _ _ c.args.state (λ n. g.F.HeldFile.holding n c.args.state) _ c.take_in.ensures.value _ c.in-Err.is
