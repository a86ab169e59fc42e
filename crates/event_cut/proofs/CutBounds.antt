-- The numbers of a cut are small enough: the products for 64 bits, the ends for U.
use Prim.Native.Nat.{ℕ, ◌+◌, ◌-◌, ◌*◌, ◌≤◌, ◌<◌}
use mathlib.Core.Path.{◌≡◌, sym, ◌∙◌, ap}
use lib.Dec.{lit<}
use mir.Val.{Fits}
use mir.Syntax.{w64}
use native.Mathlib.Nat.{mul-le-mul, mul-le-mul_left, mul-le-mul_right, le_trans, lt_of_le_of_lt}
use native.Mathlib.Nat.{add-mul, mul-pos, le-mul_of_pos_right, add-sub_of_le}
use native.Mathlib.Omega.{arith}
use Rattle.theory.specs.Unit.{billion}
use Rattle.theory.specs.Trapezoid.{Trapezoid}
use Rattle.event_cut.specs.Level.{IsLevel}
use Rattle.event_cut.specs.Requirements.{Cuttable}

-- The exact lower end, over the denominator times n.
abbrev pub lower_numerator : Trapezoid → ℕ → ℕ → ℕ
lower_numerator x k n = x.a * n + (x.b - x.a) * k

-- What is at most the largest product fits 64 bits.
pub fits_64 : {x : ℕ} → x ≤ 1000000000000000000 → Fits w64 x
fits_64 h = record { fits = lt_of_le_of_lt h (lit< tt) }

-- The exact lower end is at most the top, d.
lower_top : (x : Trapezoid) (k n : ℕ) → x.a ≤ x.b → x.b ≤ x.d → k ≤ n → lower_numerator x k n ≤ x.d * n
lower_top x k n a_b b_d k_n =
    let grown : (x.b - x.a) * k ≤ (x.b - x.a) * n = mul-le-mul_left (x.b - x.a) k_n in
    let whole : x.a * n + (x.b - x.a) * n ≡ x.b * n =
    sym (add-mul x.a (x.b - x.a) n) ∙ ap (λ (y : ℕ). y * n) (add-sub_of_le a_b) in
    let top : x.b * n ≤ x.d * n = mul-le-mul_right n b_d in
    omega arith

module _ (units : ℕ) (x : Trapezoid) (k n : ℕ) (small : Cuttable billion units x) (level : IsLevel k n) where
  pub denominator_positive : 0 < x.den * n
  denominator_positive = mul-pos small.den_positive level.n_positive

  pub denominator_bounded : x.den * n ≤ 1000000000
  denominator_bounded = mul-le-mul small.den_bounded level.n_bounded

  -- What is at most the top counts at most U units.
  pub top_units : (y : ℕ) → y ≤ x.d * n → y * units ≤ billion * (x.den * n)
  top_units y h =
      let counted : y * units ≤ x.d * n * units = mul-le-mul_right units h in
      let below : x.d * units * n ≤ billion * x.den * n = mul-le-mul_right n small.d_unit in
      omega arith

  pub scaled_bounded : (y : ℕ) → y ≤ x.d * n → y * units ≤ 1000000000000000000
  scaled_bounded y h = le_trans (top_units y h) (mul-le-mul_left billion denominator_bounded)

  pub top_bounded : (y : ℕ) → y ≤ x.d * n → y ≤ 1000000000000000000
  top_bounded y h = le_trans (le-mul_of_pos_right y small.units_positive) (scaled_bounded y h)

  pub lower_bounded : lower_numerator x k n ≤ x.d * n
  lower_bounded = lower_top x k n small.a_b (le_trans small.b_c small.c_d) level.k_n
