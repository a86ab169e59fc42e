-- A level out of range is refused first; in range, the pair's own refusals are left.
use Rattle.std.proofs.Common.{sym, ◌∙◌, ℕ, ◌≡◌, arith}
use Rattle.held_pair.proofs.Standing.{level_out_of_range, level_in_range}
use Rattle.held_pair.proofs.Ready.{level_ranged, no_level}
use Rattle.held_pair.proofs.lent.HeldPair.judge_level.Goals as goal

pub returns-then-is_none : goal.returns-then-is_none
returns-then-is_none c =
    level_out_of_range _ _ _ _ _ _ c.at.ensures
    (no_level _ _ (λ level.
    let some = c.new.ensures.exactly.1 level in
    let none = c.if-is_none.ensures in
    let z : ◌≡◌ {A = ℕ} 0 1 = cc in
    omega arith))

pub returns : goal.returns
returns c =
    let within = level_ranged _ _ (c.new.ensures.exactly.0 c.if-is_none.ensures) in
    c.judge.ensures ∙ sym (level_in_range _ _ _ _ _ within)
