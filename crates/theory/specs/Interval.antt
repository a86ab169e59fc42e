-- Intervals of fractions, their product and difference (004, Definition 4), and the bottom-up method on alpha-cuts
-- (004, equation (6)).
use Rattle.std.specs.Prelude.{ℕ, ◌<◌, cond, List, [], ◌∷◌, map}
use Rattle.theory.specs.Fraction.{Fraction, Probability, ◌≼◌, at_most, one, ◌⊗◌, ◌⊖◌, in_units}
use Rattle.theory.specs.FaultTree.{GateKind, all, any, Tree, Inputs, basic, gate, only, more}

pub record Interval : Type 0 where
  pub lower : Fraction
  pub upper : Fraction

-- the fraction p lies in the interval, the ends included
pub record Inside (x : Interval) (p : Fraction) : Type 0 where
  pub positive : 0 < p.den
  pub above : x.lower ≼ p
  pub below : p ≼ x.upper

-- y is wider than x: it has every fraction that x has, and another
pub record Wider (y x : Interval) : Type 0 where
  pub contains : (p : Fraction) → Inside x p → Inside y p
  pub added : Fraction
  pub added_inside : Inside y added
  pub added_outside : Inside x added → ⊥

-- from v to w units of which U make 1
abbrev pub units_interval : ℕ → ℕ → ℕ → Interval
units_interval U v w = record { lower = in_units U v; upper = in_units U w }

-- an interval of probabilities
pub record Ordered (x : Interval) : Type 0 where
  pub lower_probability : Probability x.lower
  pub upper_probability : Probability x.upper
  pub rising : x.lower ≼ x.upper

abbrev pub lesser : Fraction → Fraction → Fraction
lesser f g = cond (at_most f g) f g

abbrev pub greater : Fraction → Fraction → Fraction
greater f g = cond (at_most f g) g f

-- from the least to the greatest of the four products of ends
abbrev pub times : Interval → Interval → Interval
times x y =
    let ll : Fraction = x.lower ⊗ y.lower in
    let lu : Fraction = x.lower ⊗ y.upper in
    let ul : Fraction = x.upper ⊗ y.lower in
    let uu : Fraction = x.upper ⊗ y.upper in
    record { lower = lesser ll (lesser lu (lesser ul uu)); upper = greater ll (greater lu (greater ul uu)) }

abbrev pub minus : Interval → Interval → Interval
minus x y = record { lower = x.lower ⊖ y.upper; upper = x.upper ⊖ y.lower }

-- from 1 to 1
abbrev pub interval_one : Interval
interval_one = record { lower = one; upper = one }

abbrev pub interval_product : List Interval → Interval
interval_product [] = interval_one
interval_product (x ∷ xs) = times x (interval_product xs)

abbrev pub interval_joined : GateKind → List Interval → Interval
interval_joined all xs = interval_product xs
interval_joined any xs = minus interval_one (interval_product (map (minus interval_one) xs))

-- Equation (6) at one level: the alpha-cut of a node by the events' alpha-cuts at that level. 004 has (6) for whole
-- fuzzy numbers, and its Theorem 1 says that it gives a tree's fuzzy unreliability. Each level may go by itself by its
-- Lemma 1: the cut of a product or a difference is the product or the difference of the cuts.
abbrev mutual
  pub interval_bottom_up : (ℕ → Interval) → Tree → Interval
  interval_bottom_up cuts (basic e) = cuts e
  interval_bottom_up cuts (gate k ts) = interval_joined k (all_intervals cuts ts)

  pub all_intervals : (ℕ → Interval) → Inputs → List Interval
  all_intervals cuts (only t) = interval_bottom_up cuts t ∷ []
  all_intervals cuts (more t ts) = interval_bottom_up cuts t ∷ all_intervals cuts ts
