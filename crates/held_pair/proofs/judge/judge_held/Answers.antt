-- The file that is held has changed, or is judged with its own counts.
use Rattle.held_pair.proofs.Standing.{changed_beyond, changed_found, changed_none}
use Rattle.held_pair.proofs.judge.judge_held.Goals as goal

pub returns-then-store-len : goal.returns-then-store-len
returns-then-store-len g c =
    changed_beyond g.F.HeldFile.PLACE g.F.HeldFile.fault g.F.HeldFile.counts _ _ _ (rw c.PLACE.ensures at c.at.ensures)
    c.if-store-len.true

pub returns-in-Ok : goal.returns-in-Ok
returns-in-Ok g c =
    changed_none g.F.HeldFile.PLACE g.F.HeldFile.fault g.F.HeldFile.counts _ _ c.if-store-len.false _ c.judge.ensures _
    c.in-Ok.is

pub returns-in-Err : goal.returns-in-Err
returns-in-Err g c =
    changed_found g.F.HeldFile.PLACE g.F.HeldFile.fault g.F.HeldFile.counts _ _ c.if-store-len.false _ c.judge.ensures _ _
    (rw c.PLACE-in-Err.ensures at c.at-in-Err.ensures) c.in-Err.is
