-- Trapezoidal fuzzy numbers (004, example 1) as four numerators over one denominator, and their alpha-cuts
-- (004, example 2).
use Rattle.std.specs.Prelude.{ℕ, ◌+◌, ◌-◌, ◌*◌, ◌≤◌, ◌<◌}
use Rattle.theory.specs.Interval.{Interval}

pub record Trapezoid : Type 0 where
  pub den : ℕ
  pub a : ℕ
  pub b : ℕ
  pub c : ℕ
  pub d : ℕ

-- a ≤ b ≤ c ≤ d ≤ 1
pub record Rising (z : Trapezoid) : Type 0 where
  pub positive : 0 < z.den
  pub a_b : z.a ≤ z.b
  pub b_c : z.b ≤ z.c
  pub c_d : z.c ≤ z.d
  pub d_den : z.d ≤ z.den

-- The alpha-cut at level k of n: from a + (b − a) × k / n to d − (d − c) × k / n (01, "A level, and the way up").
-- ℕ's − stops at 0, which is never met where a ≤ b, c ≤ d and k ≤ n.
unfoldable pub cut : Trapezoid → ℕ → ℕ → Interval
cut z k n = record {
  lower = record { num = z.a * n + (z.b - z.a) * k; den = z.den * n };
  upper = record { num = z.d * n - (z.d - z.c) * k; den = z.den * n };
}
