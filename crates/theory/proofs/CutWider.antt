-- Where a trapezoidal number spreads further than another over the same denominator, so does its cut at every level.
use Prim.Native.Nat.{ℕ, ◌+◌, ◌-◌, ◌*◌, ◌≤◌, ◌<◌}
use mathlib.Core.Path.{◌≡◌}
use native.Mathlib.Nat.{mul-pos, mul-le-mul_right, le_of_mul-le-mul_right, le_refl, le_trans, add-le-add}
use native.Mathlib.Nat.{sub-add_cancel}
use native.Mathlib.Decide.{dec_lt}
use native.Mathlib.Omega.{arith}
use Rattle.theory.specs.Fraction.{Fraction}
use Rattle.theory.specs.Interval.{Interval, Inside, Wider}
use Rattle.theory.specs.Trapezoid.{Trapezoid, Rising, cut}
use Rattle.theory.proofs.CutOrdered.{lower_mixture, upper_mixture}

-- from l to u over q
abbrev over : ℕ → ℕ → ℕ → Interval
over q l u = record { lower = record { num = l; den = q }; upper = record { num = u; den = q } }

-- an interval is wider than another where neither of its ends lies inside that, and they lie further apart
wider_over : (q l u m v : ℕ) → 0 < q → m ≤ l → u ≤ v → m ≤ v → m + u < l + v → Wider (over q m v) (over q l u)
wider_over q l u m v pos below above ordered apart = go (dec_lt m l)
  where
    inside : (y : ℕ) → m ≤ y → y ≤ v → Inside (over q m v) (record { num = y; den = q })
    inside y h k = record { positive = pos; above = mul-le-mul_right q h; below = mul-le-mul_right q k }

    contained : (p : Fraction) → Inside (over q l u) p → Inside (over q m v) p
    contained p h =
        record {
          positive = h.positive;
          above = le_trans (mul-le-mul_right p.den below) h.above;
          below = le_trans h.below (mul-le-mul_right p.den above);
        }

    go : Dec (m < l) → Wider (over q m v) (over q l u)
    go (yes h) =
        record {
          contains = contained;
          added = record { num = m; den = q };
          added_inside = inside m (le_refl m) ordered;
          added_outside = λ k. let l_m : l ≤ m = le_of_mul-le-mul_right k.above pos in omega arith;
        }
    go (no h) =
        record {
          contains = contained;
          added = record { num = v; den = q };
          added_inside = inside v ordered (le_refl v);
          added_outside = λ k. let v_u : v ≤ u = le_of_mul-le-mul_right k.below pos in omega arith;
        }

-- y spreads further than x: its a and b are not above, its c and d not below, and both pairs lie further apart
pub record Spread (y x : Trapezoid) : Type 0 where
  pub den : y.den ≡ x.den
  pub a : y.a ≤ x.a
  pub b : y.b ≤ x.b
  pub c : x.c ≤ y.c
  pub d : x.d ≤ y.d
  pub a_d : y.a + x.d < x.a + y.d
  pub b_c : y.b + x.c < x.b + y.c

-- the cut at each level is wider
pub cut_wider : (y x : Trapezoid) → Rising y → Rising x → Spread y x → (k n : ℕ) → 0 < n → k ≤ n
    → Wider (cut y k n) (cut x k n)
unfolding cut
cut_wider y x hy hx s k n pos l =
    rw (
      s.den,
      lower_mixture y.a y.b k n hy.a_b l,
      upper_mixture y.c y.d k n hy.c_d l,
      lower_mixture x.a x.b k n hx.a_b l,
      upper_mixture x.c x.d k n hx.c_d l,
    )
    (wider_over (x.den * n) (x.a * (n - k) + x.b * k) (x.d * (n - k) + x.c * k) (y.a * (n - k) + y.b * k)
    (y.d * (n - k) + y.c * k) (mul-pos hx.positive pos) (mixed s.a s.b) (mixed s.d s.c)
    (mixed (le_trans hy.a_b (le_trans hy.b_c hy.c_d)) hy.b_c) apart)
  where
    -- a mixture rises with its numbers
    mixed : {e f g h : ℕ} → e ≤ f → g ≤ h → e * (n - k) + g * k ≤ f * (n - k) + h * k
    mixed p q = add-le-add (mul-le-mul_right (n - k) p) (mul-le-mul_right k q)

    apart : y.a * (n - k) + y.b * k + (x.d * (n - k) + x.c * k)
        < x.a * (n - k) + x.b * k + (y.d * (n - k) + y.c * k)
    apart =
        omega (
          arith,
          mul-le-mul_right (n - k) s.a_d,
          mul-le-mul_right k s.b_c,
          sub-add_cancel l,
        )
