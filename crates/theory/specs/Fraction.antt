-- Fractions: a whole number over a whole number above 0, compared by their crosswise products (01, first section).
-- Nothing here asks that the denominator is above 0; `Probability` does, and every law that needs it says so.
use Rattle.std.specs.Prelude.{ℕ, ◌+◌, ◌-◌, ◌*◌, ◌≤◌, ◌<◌, ◌≡◌, Bool, List, [], ◌∷◌, leb}

infix 4 ◌≼◌ ◌≺◌ ◌≈◌
infixl 40 ◌⊗◌
infixl 35 ◌⊕◌ ◌⊖◌
pub record Fraction : Type 0 where
  pub num : ℕ
  pub den : ℕ

-- f is at most g
abbrev pub ◌≼◌ : Fraction → Fraction → Type 0
f ≼ g = f.num * g.den ≤ g.num * f.den

-- f is below g
abbrev pub ◌≺◌ : Fraction → Fraction → Type 0
f ≺ g = f.num * g.den < g.num * f.den

-- f equals g
abbrev pub ◌≈◌ : Fraction → Fraction → Type 0
f ≈ g = f.num * g.den ≡ g.num * f.den

-- the test whether f is at most g
abbrev pub at_most : Fraction → Fraction → Bool
at_most f g = leb (f.num * g.den) (g.num * f.den)

-- a fraction from 0 to 1
pub record Probability (p : Fraction) : Type 0 where
  pub positive : 0 < p.den
  pub at_most_one : p.num ≤ p.den

-- f and g are the same probability: neither denominator is 0, without which equal crosswise products would say nothing
pub record SameProbability (f g : Fraction) : Type 0 where
  pub left : Probability f
  pub right : Probability g
  pub equal : f ≈ g

abbrev pub one : Fraction
one = record { num = 1; den = 1 }

abbrev pub ◌⊗◌ : Fraction → Fraction → Fraction
f ⊗ g = record { num = f.num * g.num; den = f.den * g.den }

abbrev pub ◌⊕◌ : Fraction → Fraction → Fraction
f ⊕ g = record { num = f.num * g.den + g.num * f.den; den = f.den * g.den }

-- the product of a list, 1 where it is empty
abbrev pub product : List Fraction → Fraction
product [] = one
product (f ∷ fs) = f ⊗ product fs

-- the sum of a list, 0 where it is empty
abbrev pub total : List Fraction → Fraction
total [] = record { num = 0; den = 1 }
total (f ∷ fs) = f ⊕ total fs

-- f − g. ℕ's − stops at 0, which is never met where g is at most f
abbrev pub ◌⊖◌ : Fraction → Fraction → Fraction
f ⊖ g = record { num = f.num * g.den - g.num * f.den; den = f.den * g.den }

-- 1 − p, over p's own denominator. ℕ's − stops at 0, which is never met where p is at most 1 (`Probability`)
abbrev pub complement : Fraction → Fraction
complement p = record { num = p.den - p.num; den = p.den }

-- v units of which U make 1, as a fraction of 1
abbrev pub in_units : ℕ → ℕ → Fraction
in_units U v = record { num = v; den = U }

-- f and k units more
abbrev pub plus_units : ℕ → ℕ → Fraction → Fraction
plus_units U k f = record { num = f.num * U + k * f.den; den = f.den * U }
