-- The cut of a trapezoidal number is an interval of probabilities, and its ends are the mixtures of the numbers that
-- the code divides once.
use Prim.Native.Nat.{ℕ, ◌+◌, ◌-◌, ◌*◌, ◌≤◌, ◌<◌}
use mathlib.Core.Path.{◌≡◌}
use native.Mathlib.Nat.{le_trans, mul-pos, mul-le-mul_right, mul-le-mul_left, sub-add_cancel, sub-le}
use native.Mathlib.Omega.{arith}
use Rattle.theory.specs.Interval.{Ordered}
use Rattle.theory.specs.Trapezoid.{Trapezoid, Rising, cut}

-- a + (b − a) × k / n is the mixture of a and b
pub lower_mixture : (a b k n : ℕ) → a ≤ b → k ≤ n → a * n + (b - a) * k ≡ a * (n - k) + b * k
lower_mixture a b k n h l = from_sums (b - a) (n - k) (sub-add_cancel h) (sub-add_cancel l)
  where
    from_sums : (m j : ℕ) → m + a ≡ b → j + k ≡ n → a * n + m * k ≡ a * j + b * k
    from_sums m j hm hj = rw (← hm, ← hj) (omega arith)

-- d − (d − c) × k / n is the mixture of d and c
pub upper_mixture : (c d k n : ℕ) → c ≤ d → k ≤ n → d * n - (d - c) * k ≡ d * (n - k) + c * k
upper_mixture c d k n h l = from_sums (d - c) (n - k) (sub-add_cancel h) (sub-add_cancel l)
  where
    from_sums : (m j : ℕ) → m + c ≡ d → j + k ≡ n → d * n - m * k ≡ d * j + c * k
    from_sums m j hm hj = rw (← hm, ← hj) (omega arith)

-- the lower end reaches at most b
lower_reach : (a b k n : ℕ) → a ≤ b → k ≤ n → a * n + (b - a) * k ≤ b * n
lower_reach a b k n h l = from_sum (b - a) (sub-add_cancel h)
  where
    from_sum : (m : ℕ) → m + a ≡ b → a * n + m * k ≤ b * n
    from_sum m hm = rw (← hm) (omega (arith, mul-le-mul_left m l))

-- the upper end reaches at least c
upper_reach : (c d k n : ℕ) → c ≤ d → k ≤ n → c * n ≤ d * n - (d - c) * k
upper_reach c d k n h l = from_sum (d - c) (sub-add_cancel h)
  where
    from_sum : (m : ℕ) → m + c ≡ d → c * n ≤ d * n - m * k
    from_sum m hm = rw (← hm) (omega (arith, mul-le-mul_left m l))

-- a level's cut of a trapezoidal number in order is an interval of probabilities
pub cut_ordered : (z : Trapezoid) (k n : ℕ) → Rising z → 0 < n → k ≤ n → Ordered (cut z k n)
unfolding cut
cut_ordered z k n h pos l =
    let b_den : z.b * n ≤ z.den * n = mul-le-mul_right n (le_trans h.b_c (le_trans h.c_d h.d_den)) in
    let d_den : z.d * n ≤ z.den * n = mul-le-mul_right n h.d_den in
    let b_c : z.b * n ≤ z.c * n = mul-le-mul_right n h.b_c in
    let low = lower_reach z.a z.b k n h.a_b l in
    let high = upper_reach z.c z.d k n h.c_d l in
    record {
      lower_probability = record { positive = mul-pos h.positive pos; at_most_one = le_trans low b_den };
      upper_probability = record {
        positive = mul-pos h.positive pos;
        at_most_one = le_trans (sub-le (z.d * n) ((z.d - z.c) * k)) d_den;
      };
      rising = mul-le-mul_right (z.den * n) (le_trans low (le_trans b_c high));
    }
