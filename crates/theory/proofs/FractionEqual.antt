-- Products of fractions regrouped, and what equal fractions have in common.
use Prim.Native.Nat.{ℕ, ◌*◌, ◌<◌}
use native.Mathlib.Nat.{mul_assoc, mul-one, one-mul}
use native.Mathlib.Nat.{mul-lt-mul_of_pos_right, lt_of_mul-lt-mul_right, eq_of_mul-eq-mul_right}
use native.Mathlib.Omega.{arith}
use mathlib.Core.Path.{◌≡◌, ap}
use Rattle.theory.specs.Fraction.{Fraction, ◌≺◌, ◌≈◌, one, ◌⊗◌, plus_units}

-- fractions with the same numerator and denominator are one
fraction_path : {f g : Fraction} → f.num ≡ g.num → f.den ≡ g.den → f ≡ g
fraction_path p q = λ i. record { num = p i; den = q i }

-- a product may be grouped either way
pub times_assoc : (f g h : Fraction) → f ⊗ g ⊗ h ≡ f ⊗ (g ⊗ h)
times_assoc f g h = fraction_path (mul_assoc f.num g.num h.num) (mul_assoc f.den g.den h.den)

-- a product with 1
pub times_one : (f : Fraction) → f ⊗ one ≡ f
times_one f = fraction_path (mul-one f.num) (mul-one f.den)

-- and a product of 1
pub one_times : (f : Fraction) → one ⊗ f ≡ f
one_times f = fraction_path (one-mul f.num) (one-mul f.den)

-- what equals a fraction equals what that equals
pub equal_trans : (f g h : Fraction) → 0 < g.den → f ≈ g → g ≈ h → f ≈ h
equal_trans f g h p d e = eq_of_mul-eq-mul_right g.den p (f.num * h.den) (h.num * f.den)
    (omega (arith, ap (λ n. n * h.den) d, ap (λ n. n * f.den) e))

-- what equals a fraction below another is below it
pub equal_below : (f g h : Fraction) → 0 < h.den → f ≈ h → f ≺ g → h ≺ g
equal_below f g h p e l = lt_of_mul-lt-mul_right f.den {m = h.num * g.den} {n = g.num * h.den}
    (omega (arith, ap (λ n. n * g.den) e, mul-lt-mul_of_pos_right l p))

-- what equals a fraction above another is above it
pub below_equal : (f g h : Fraction) → 0 < h.den → g ≈ h → f ≺ g → f ≺ h
below_equal f g h p e l = lt_of_mul-lt-mul_right g.den {m = f.num * h.den} {n = h.num * f.den}
    (omega (arith, ap (λ n. n * f.den) e, mul-lt-mul_of_pos_right l p))

-- equal fractions are equal with as many units more
pub plus_units_equal : (U k : ℕ) (f g : Fraction) → f ≈ g → plus_units U k f ≈ plus_units U k g
plus_units_equal U k f g e = omega (arith, ap (λ n. n * (U * U)) e)
