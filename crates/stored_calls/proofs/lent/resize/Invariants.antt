use Rattle.std.proofs.Common.{◌≡◌, ◌++◌, ◌≤◌, min, replicate, take}
use Rattle.stored_calls.proofs.lent.resize.Given as goal

abbrev pub invariant-loop : goal.invariant-loop
invariant-loop g l = record {
  within : l.counter ≤ min l.length g.row.ROOM;
  places : l.store.items ≡ take l.counter (l.fn.store.items ++ replicate g.row.ROOM 238);
}
