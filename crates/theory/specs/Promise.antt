-- What is promised of a reported end and of the top probability (demand 3), and of which fractions of the events.
use Rattle.std.specs.Prelude.{ℕ, ◌<◌, not, T}
use Rattle.theory.specs.Fraction.{Fraction, Probability, ◌≺◌, ◌≈◌, in_units, plus_units}
use Rattle.theory.specs.FaultTree.{Tree}
use Rattle.theory.specs.Unreliability.{unreliability}
use Rattle.theory.specs.Interval.{Interval, Inside}
use Rattle.theory.specs.Rounding.{Direction, down, up, End, end_of, reported}

-- of a reported and an exact end, the one that must not lie above the other: a lower end is reported at or below the
-- exact one, an upper end at or above it
abbrev pub under : Direction → Fraction → Fraction → Fraction
under down reported exact = reported
under up reported exact = exact

abbrev pub over : Direction → Fraction → Fraction → Fraction
over down reported exact = exact
over up reported exact = reported

-- The reported end r of the exact end x, in the direction w, with an allowance of A units. `near` is written without a
-- difference: the one is below the other and A units more.
pub record Promised (U : ℕ) (w : Direction) (A : ℕ) (r : End) (x : Fraction) : Type 0 where
  pub marked : T r.exact → in_units U r.value ≈ x
  pub unmarked : T (not r.exact) → under w (in_units U r.value) x ≺ over w (in_units U r.value) x
  pub near : over w (in_units U r.value) x ≺ plus_units U A (under w (in_units U r.value) x)

-- a node's exact end: its unreliability with every event at that end of its cut
abbrev pub exact_end : Direction → (ℕ → Interval) → Tree → Fraction
exact_end w cuts t = unreliability (λ e. end_of w (cuts e)) t

-- every event below E has a probability
abbrev pub Probabilities : ℕ → (ℕ → Fraction) → Type 0
Probabilities E p = (e : ℕ) → e < E → Probability (p e)

-- a choice of fractions: every event below E has one inside its cut
abbrev pub Choice : (ℕ → Interval) → ℕ → (ℕ → Fraction) → Type 0
Choice cuts E p = (e : ℕ) → e < E → Inside (cuts e) (p e)
