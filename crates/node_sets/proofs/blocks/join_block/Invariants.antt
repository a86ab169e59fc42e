-- The block's first p places are written, and every other place is as it was.
use Rattle.std.proofs.Common.{◌≡◌, ℕ, ◌+◌, ◌<◌, ◌≤◌, get_or, bit_or}
use Rattle.node_sets.proofs.blocks.join_block.Given as goal

abbrev pub invariant-loop-p : goal.invariant-loop-p
invariant-loop-p l = record {
  each : (r : ℕ) → r < l.p → get_or l.sets (l.to + r) 0 ≡ bit_or (get_or l.initial.sets r 0) l.set;
  below : (r : ℕ) → r < l.to → get_or l.sets r 0 ≡ get_or l.initial.sets r 0;
  rest : (r : ℕ) → l.to + l.p ≤ r → get_or l.sets r 0 ≡ get_or l.initial.sets r 0;
}
