-- Rounding means what specs/Rounding says of it: the nearest whole number on the safe side. It is monotone, exact on
-- whole numbers, and the same however the fraction is written.
use Prim.Native.Nat.{ℕ, zero, suc, ◌+◌, ◌*◌, ◌/◌, ◌%◌, ◌≤◌, ◌<◌}
use native.Mathlib.Nat.{div-add-mod', mod-lt, mul-div-mul_right, lt_of_mul-lt-mul_right, le_of_mul-le-mul_right}
use native.Mathlib.Nat.{mul-le-mul_right, mul-pos, zero-mul, mul-suc, add-suc, zero-mod, mul-mod_right}
use native.Mathlib.Nat.{le_refl, le_trans, le_antisymm}
use native.Mathlib.Omega.{arith}
use mathlib.Core.Path.{◌≡◌, refl, ap, sym, ◌∙◌}
use lib.Dec.{T, eqb, eqb-suc-zero}
use Rattle.theory.specs.Rounding.{Direction, down, up, IsRounded, carry, rounded, nothing_dropped}
use Rattle.theory.proofs.Gap.{Gap}
use Rattle.theory.proofs.Outward.{Outward, lower_of, upper_of, outward_widen}

-- a quotient without its remainder
quotient_gap : (q r b a : ℕ) → q * b + r ≡ a → r < b → Gap (carry r) b (eqb (carry r) 0) (q * b) a
quotient_gap q zero b a e l = omega arith
quotient_gap q (suc r) b a e l = omega arith

-- a quotient with 1 more for its remainder
quotient_gap_up : (q r b a : ℕ) → q * b + r ≡ a → r < b → Gap (carry r) b (eqb (carry r) 0) a ((q + carry r) * b)
quotient_gap_up q zero b a e l = omega arith
quotient_gap_up q (suc r) b a e l = omega arith

-- rounding keeps to its side and less than 1 off, not at all off where nothing is dropped
pub rounded_outward : (w : Direction) (a b : ℕ) → 0 < b
    → Outward w (carry (a % b)) b (nothing_dropped a b) (rounded w a b * b) a
unfolding rounded nothing_dropped
rounded_outward down a b p = record { gap = quotient_gap (a / b) (a % b) b a (div-add-mod' a b) (mod-lt a p) }
rounded_outward up a b p = record { gap = quotient_gap_up (a / b) (a % b) b a (div-add-mod' a b) (mod-lt a p) }

-- the carry is 0 or 1
pub carry_at_most_one : (r : ℕ) → carry r ≤ 1
carry_at_most_one zero = omega arith
carry_at_most_one (suc r) = omega arith

-- rounding is less than 1 off
rounded_near : (w : Direction) (a b : ℕ) → 0 < b
    → upper_of w (rounded w a b * b) a < lower_of w (rounded w a b * b) a + 1 * b
rounded_near w a b p =
    (outward_widen (carry_at_most_one (a % b)) p (rounded_outward w a b p)).gap.strictly_near (omega arith)

-- rounding means that number
pub rounded_is_rounded : (w : Direction) (a b : ℕ) → 0 < b → IsRounded w a b (rounded w a b)
rounded_is_rounded down a b p =
    let r : ℕ = rounded down a b in
    record {
      safe = (rounded_outward down a b p).gap.order;
      nearest = λ u s.
          omega (arith, lt_of_mul-lt-mul_right b {m = u} {n = suc r} (omega (arith, rounded_near down a b p)));
    }
rounded_is_rounded up a b p =
    let r : ℕ = rounded up a b in
    record {
      safe = (rounded_outward up a b p).gap.order;
      nearest = λ u s.
          omega (arith, lt_of_mul-lt-mul_right b {m = r} {n = suc u} (omega (arith, rounded_near up a b p)));
    }

-- there is only one such number
pub rounded_unique : (w : Direction) (a b v : ℕ) → 0 < b → IsRounded w a b v → v ≡ rounded w a b
rounded_unique down a b v p r =
    let s : IsRounded down a b (rounded down a b) = rounded_is_rounded down a b p in
    le_antisymm (s.nearest v r.safe) (r.nearest (rounded down a b) s.safe)
rounded_unique up a b v p r =
    let s : IsRounded up a b (rounded up a b) = rounded_is_rounded up a b p in
    le_antisymm (r.nearest (rounded up a b) s.safe) (s.nearest v r.safe)

-- rounding is monotone
pub rounded_monotone : (w : Direction) (a c b : ℕ) → 0 < b → a ≤ c → rounded w a b ≤ rounded w c b
rounded_monotone down a c b p l =
    (rounded_is_rounded down c b p).nearest (rounded down a b) (le_trans (rounded_is_rounded down a b p).safe l)
rounded_monotone up a c b p l =
    (rounded_is_rounded up a b p).nearest (rounded up c b) (le_trans l (rounded_is_rounded up c b p).safe)

-- a whole number is its own rounded number
whole_is_rounded : (w : Direction) (k b : ℕ) → 0 < b → IsRounded w (k * b) b k
whole_is_rounded down k b p = record { safe = le_refl _; nearest = λ u s. le_of_mul-le-mul_right s p }
whole_is_rounded up k b p = record { safe = le_refl _; nearest = λ u s. le_of_mul-le-mul_right s p }

-- rounding is exact on whole numbers
pub rounded_whole : (w : Direction) (k b : ℕ) → 0 < b → rounded w (k * b) b ≡ k
rounded_whole w k b p = sym (rounded_unique w (k * b) b k p (whole_is_rounded w k b p))

-- what is at most a whole number is rounded to at most that number
pub rounded_at_most : (w : Direction) (a b k : ℕ) → 0 < b → a ≤ k * b → rounded w a b ≤ k
rounded_at_most w a b k p l = rw (rounded_whole w k b p) at (rounded_monotone w a (k * b) b p l)

-- the meaning does not turn on how a fraction is written
scale_is_rounded : (w : Direction) (a b c v : ℕ) → 0 < c → IsRounded w a b v → IsRounded w (a * c) (b * c) v
scale_is_rounded down a b c v q r = record {
  safe = omega (arith, mul-le-mul_right c r.safe);
  nearest = λ u s. r.nearest u (le_of_mul-le-mul_right {k = c} (omega (arith, s)) q);
}
scale_is_rounded up a b c v q r = record {
  safe = omega (arith, mul-le-mul_right c r.safe);
  nearest = λ u s. r.nearest u (le_of_mul-le-mul_right {k = c} (omega (arith, s)) q);
}

-- a fraction is rounded alike however it is written
pub rounded_scale : (w : Direction) (a b c : ℕ) → 0 < b → 0 < c → rounded w (a * c) (b * c) ≡ rounded w a b
rounded_scale w a b c p q = sym (rounded_unique w (a * c) (b * c) (rounded w a b) (mul-pos p q)
    (scale_is_rounded w a b c (rounded w a b) q (rounded_is_rounded w a b p)))

-- the remainder grows with both numbers
mod_scale : (a b c : ℕ) → 0 < c → a * c % (b * c) ≡ a % b * c
mod_scale a b c q =
    let scaled : a / b * (b * c) + a * c % (b * c) ≡ a * c
    = rw (mul-div-mul_right a b q) at (div-add-mod' (a * c) (b * c)) in
    omega (arith, scaled, ap (λ n. n * c) (div-add-mod' a b))

-- a factor above 0 leaves the carry as it is
carry_scale : (r c : ℕ) → 0 < c → carry (r * c) ≡ carry r
carry_scale zero c q = ap carry (zero-mul c)
carry_scale (suc r) zero q = omega arith
carry_scale (suc r) (suc c) q = ap carry (mul-suc (suc r) c ∙ add-suc (suc r * c) r)

-- rounding drops something or not, however the fraction is written
pub nothing_dropped_scale : (a b c : ℕ) → 0 < c → nothing_dropped (a * c) (b * c) ≡ nothing_dropped a b
unfolding nothing_dropped
nothing_dropped_scale a b c q = rw (mod_scale a b c q, carry_scale (a % b) c q)

-- rounding a whole number carries nothing
pub carry_whole : (k b : ℕ) → carry (b * k % b) ≡ 0
carry_whole k b = ap carry (mul-mod_right b k)

-- rounding 0 drops nothing
pub nothing_dropped_zero : (a b : ℕ) → a ≡ 0 → T (nothing_dropped a b)
unfolding nothing_dropped
nothing_dropped_zero a b z = rw (z, zero-mod b) tt

-- nothing is dropped just where there is no remainder
pub no_remainder : (a b : ℕ) → eqb (a % b) 0 ≡ nothing_dropped a b
unfolding nothing_dropped
no_remainder a b = go (a % b)
  where
    go : (r : ℕ) → eqb r 0 ≡ eqb (carry r) 0
    go zero = refl
    go (suc r) = eqb-suc-zero r
