-- A gate's rounded end as one fold over its links, for contracts of code that folds: AND and OR see their inputs, turn
-- their direction and answer by the kind of the gate.
use Rattle.std.specs.Prelude.{ℕ, zero, suc, ◌+◌}
use Rattle.theory.specs.FaultTree.{GateKind, all, any}
use Rattle.theory.specs.Rounding.{Direction, opposite, End, start, end_complement, step}

-- The end of an input as the fold sees it, and the fold's outcome as the gate answers it.
abbrev pub seen : GateKind → ℕ → End → End
seen all U x = x
seen any U x = end_complement U x

-- The direction in which the fold rounds.
abbrev pub turned : GateKind → Direction → Direction
turned all w = w
turned any w = opposite w

-- Both ends of an interval, by direction, as the fold sees them: what is missing to 1 turns the two about.
abbrev pub both_seen : GateKind → ℕ → (Direction → End) → Direction → End
both_seen kind U ends w = seen kind U (ends (turned kind w))

-- Of two things, the one for an AND and the one for an OR.
abbrev pub by_kind : {A : Type 0} → GateKind → A → A → A
by_kind all x y = x
by_kind any x y = y

-- The running number after the ends of links a, a + 1, .. : m of them, the last one added last.
abbrev pub folded : ℕ → Direction → (ℕ → End) → ℕ → ℕ → End
folded U w ends a zero = start U
folded U w ends a (suc m) = step U w (folded U w ends a m) (ends (a + m))
