-- Whole units need no denominator: U over U cancels, and neither the ends nor the marks change.
use Prim.Native.Nat.{ℕ, ◌+◌, ◌-◌, ◌*◌, ◌<◌}
use mathlib.Core.Path.{◌≡◌, sym}
use native.Mathlib.Nat.{mul-one, one-mul, mul_comm}
use Rattle.theory.specs.Trapezoid.{Trapezoid, cut}
use Rattle.theory.specs.Rounding.{Direction, down, up, cut_end}
use Rattle.theory.proofs.RoundingMeaning.{rounded_scale, nothing_dropped_scale}
use Rattle.rounding.specs.Ends.{as_code}
use Rattle.event_cut.specs.EventCut.{numbers_trapezoid, outward}
use Rattle.opinion_sheet.specs.declared.numbers.Numbers.{Numbers}

-- Four numbers in units as whole numbers.
abbrev pub whole_units : Numbers ℕ → Trapezoid
whole_units x = record { den = 1; a = x.a; b = x.b; c = x.c; d = x.d }

-- An end of their cut, counted in ones, is the end of the same over U, counted in units.
end_whole : (U : ℕ) → 0 < U → (w : Direction) (y n : ℕ) → 0 < n
    → cut_end 1 w (record { num = y; den = 1 * n }) ≡ cut_end U w (record { num = y; den = U * n })
unfolding cut_end
end_whole U units w y n h =
    rw (mul-one y, one-mul n, mul_comm U n)
    (λ i. record {
      value = sym (rounded_scale w y n U h units) i;
      exact = sym (nothing_dropped_scale y n U units) i;
    })

-- Their cut, counted in ones, is the cut of the same over U, counted in units.
pub cut_whole : (U : ℕ) → 0 < U → (x : Numbers ℕ) (k n : ℕ) → 0 < n
    → outward 1 (cut (whole_units x) k n) ≡ outward U (cut (numbers_trapezoid U x) k n)
unfolding cut
cut_whole U units x k n h =
    λ i. record {
      lower = as_code (end_whole U units down (x.a * n + (x.b - x.a) * k) n h i);
      upper = as_code (end_whole U units up (x.d * n - (x.d - x.c) * k) n h i);
    }
