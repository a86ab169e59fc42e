use Rattle.std.proofs.Common.{◌≡◌, ◌++◌, length, min, replicate, take}
use Rattle.stored_calls.proofs.lent.resize_front.Given as goal

abbrev pub invariant-loop-place : goal.invariant-loop-place
invariant-loop-place g l = record {
  room : length l.store.room ≡ g.row.ROOM;
  places : take l.place l.store.room
      ≡ take (min l.place g.row.ROOM)
      (take l.initial.store.count l.initial.store.room ++ replicate g.row.ROOM 238);
}
