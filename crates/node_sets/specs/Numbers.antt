-- The set of events that a 64-bit number stands for.
use Rattle.std.specs.Prelude.{ℕ, ◌/◌, ◌%◌, ◌^◌, eqb}
use Rattle.theory.specs.Unreliability.{EventSet}

-- Bit e is set exactly for event e (02, request 1).
unfoldable pub members : ℕ → EventSet
members x e = eqb (x / 2 ^ e % 2) 1

-- The most basic events of a tree whose sets have numbers: a bit for each.
abbrev pub most_events : ℕ
most_events = 64
