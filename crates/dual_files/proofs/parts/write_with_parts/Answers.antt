-- `Writing` holds at each turn of the loop, and says the result after the last.
use Rattle.std.proofs.Common.{ap, arith, length, refl, ◌≡◌, ◌≤◌, ◌+◌, ◌*◌, ◌∙◌}
use Rattle.dual_files.proofs.PartsTurn.{writing_starts, writing_goes, parts_written}
use Rattle.dual_files.proofs.parts.write_with_parts.Goals as goal

pub loop-i-init : goal.loop-i-init
loop-i-init g c = λ parts are. writing_starts _ _ _ _

pub loop-i-preserved : goal.loop-i-preserved
loop-i-preserved g c = λ parts are.
    let room : c.args.at + c.args.size * c.args.count ≤ length c.copy.new.to = omega arith in
    writing_goes _ _ parts _ _ room _ c.loop-i.auto.buffer _ (omega arith)
    (c.loop-i.invariant parts are) _ (c.as_slice.ensures ∙ are _ refl _ (omega arith) _ c.part-word.ensures)
    (ap length c.as_slice.ensures ∙ c.requires.sized _ refl _ (omega arith) _ c.part-word.ensures) _
    c.copy-in-loop-i.ensures.copied

pub returns : goal.returns
returns g c = λ parts are.
    let all : c.loop-i.i ≡ c.args.count = omega arith in
    parts_written _ _ parts _ _ _ c.requires.inside _ c.copy.ensures.copied _ (rw all at (c.loop-i.invariant parts are)).written
