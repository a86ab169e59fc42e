-- That the code reckons what the theory defines.
use Prim.Native.Nat.{ℕ, zero, suc, min}
use mathlib.Core.Path.{◌≡◌}
use native.Mathlib.Nat.{mul-le-mul}
use native.Mathlib.Omega.{arith}
use Rattle.theory.specs.Rounding.{carry}
use Rattle.theory.proofs.Rescaled.{rescaled_at_most, whole_drops_nothing}

-- what a remainder adds to a quotient that the library rounds up
pub carry_is_min : (r : ℕ) → carry r ≡ min 1 r
carry_is_min zero = omega arith
carry_is_min (suc r) = omega arith

-- a step's mark, and that its answer is at most the unit
pub ruleset step_laws = (whole_drops_nothing, rescaled_at_most, mul-le-mul)
