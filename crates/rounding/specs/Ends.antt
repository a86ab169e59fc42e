-- The code's directions and ends as the theory's. The unit U is a parameter.
use Rattle.std.specs.Prelude.{ℕ, ◌≤◌, Bool, true, false}
use Rattle.theory.specs.Rounding.{Direction, down, up, End}
use Rattle.rounding.specs.declared.direction.Direction.{Direction as CodeDirection}
use Rattle.rounding.specs.declared.direction.Direction.TheVariants as code
use Rattle.rounding.specs.declared.end.End.{End as CodeEnd}
use Rattle.rounding.specs.declared.end.Enclosure.{Enclosure}

-- the theory's direction
abbrev pub way : CodeDirection → Direction
way code.Down = down
way code.Up = up

-- whether a direction is up
abbrev pub upward : Direction → Bool
upward down = false
upward up = true

-- the same value and mark as the theory's end
abbrev pub as_theory : CodeEnd → End
as_theory x = record { value = x.value; exact = x.exact }

-- the same value and mark as the code's end
abbrev pub as_code : End → CodeEnd
as_code x = record { value = x.value; exact = x.exact }

-- both ends of an interval, by the end in each direction
abbrev pub enclosure : (Direction → End) → Enclosure
enclosure f = record { lower = as_code (f down); upper = as_code (f up) }

-- the end of an interval in a direction
abbrev pub end_in : Direction → Enclosure → End
end_in down x = as_theory x.lower
end_in up x = as_theory x.upper

-- an end is at most U: no ghost field of `End`, which is also read from lent slices, whatever these hold
pub record InUnits (U : ℕ) (x : CodeEnd) : Type 0 where
  pub at_most : x.value ≤ U

-- both ends of an interval are at most U
pub record BothInUnits (U : ℕ) (x : Enclosure) : Type 0 where
  pub lower_in_units : InUnits U x.lower
  pub upper_in_units : InUnits U x.upper
