-- The sets are written where there is room.
use Rattle.std.proofs.Common.{arith}
use Rattle.cut_sets.proofs.Outcomes.{list_short, list_written}
use Rattle.cut_sets.proofs.list.listed.Goals as goal

pub returns-then-sets-count : goal.returns-then-sets-count
returns-then-sets-count c =
    let all =
    list_short c.requires.small c.requires.root_value c.count_beneath-count.ensures.value _ c.at.ensures _
    c.if-sets-count.true in
    record { value = all.0; sets_left = all.1 }

pub returns : goal.returns
returns c =
    let all =
    list_written c.requires.small c.requires.root_value c.count_beneath-count.ensures.value _ _
    (omega (arith, c.if-sets-count.false)) c.write_sets.ensures c.write_sets.auto.sets in
    record { value = all.0; sets_left = all.1 }
