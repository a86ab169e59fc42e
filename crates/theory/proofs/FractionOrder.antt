-- The order of fractions by crosswise products: transitive over a denominator above 0, and how products, complements
-- and equal fractions stand in it.
use Prim.Native.Nat.{ℕ, ◌+◌, ◌-◌, ◌*◌, ◌≤◌, ◌<◌}
use mathlib.Core.Path.{◌≡◌, ap, ap₂}
use native.Mathlib.Nat.{mul-le-mul, mul-le-mul_right, le_of_mul-le-mul_right, sub-add_cancel, mul-one, one-mul}
use native.Mathlib.Omega.{arith}
use Rattle.theory.specs.Fraction.{Fraction, Probability, ◌≼◌, one, ◌⊗◌, ◌⊖◌, complement}

-- what is at most a fraction is at most what that is at most
pub at_most_trans : (f g h : Fraction) → 0 < g.den → f ≼ g → g ≼ h → f ≼ h
at_most_trans f g h pos l r =
    le_of_mul-le-mul_right {k = g.den} (omega (arith, mul-le-mul_right h.den l, mul-le-mul_right f.den r)) pos

-- a fraction is at most itself
pub at_most_refl : (f : Fraction) → f ≼ f
at_most_refl f = omega arith

-- a product rises with both its factors
pub product_monotone : (f g h k : Fraction) → f ≼ g → h ≼ k → f ⊗ h ≼ g ⊗ k
product_monotone f g h k l r = omega (arith, mul-le-mul l r)

-- the complement turns the order round
pub complement_antitone : (f g : Fraction) → Probability f → Probability g → f ≼ g → complement g ≼ complement f
complement_antitone f g hf hg l =
    from_sums (f.den - f.num) (g.den - g.num) (sub-add_cancel hf.at_most_one) (sub-add_cancel hg.at_most_one)
  where
    from_sums : (m k : ℕ) → m + f.num ≡ f.den → k + g.num ≡ g.den → k * f.den ≤ m * g.den
    from_sums m k hm hk = omega (arith, l, ap (λ x. x * g.den) hm, ap (λ x. x * f.den) hk)

-- 1 − p by the difference of fractions is the complement
pub one_minus : (p : Fraction) → one ⊖ p ≡ complement p
one_minus p =
    ap₂ (λ (n d : ℕ). record { num = n; den = d })
    (ap₂ ◌-◌ (one-mul p.den) (mul-one p.num)) (one-mul p.den)
