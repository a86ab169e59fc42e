use Rattle.std.proofs.Common.{length, ◌-◌, ◌≡◌, ◌≤◌}
use Rattle.program_input.proofs.read.read_full.Given as goal

-- What was read lies in the part, which stays as long as it was.
abbrev pub invariant-loop-done : goal.invariant-loop-done
invariant-loop-done g l = (l.done ≤ length l.part) × (length l.part ≡ length l.initial.part)

abbrev pub decreases-loop-done : goal.decreases-loop-done
decreases-loop-done g l = length l.initial.part - l.done
