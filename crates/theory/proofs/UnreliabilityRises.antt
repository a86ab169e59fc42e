-- The unreliability is a probability and rises with every event's probability; so whatever fractions the events have
-- inside their cuts, it lies between the exact ends.
use Prim.Native.Nat.{ℕ, ◌*◌, ◌≤◌}
use native.Mathlib.Nat.{le_trans, le_of_eq, le-add_right, mul-le-mul_right, le_of_mul-le-mul_right}
use mathlib.Core.Path.{sym}
use native.Mathlib.Omega.{arith}
use Rattle.theory.specs.Fraction.{Fraction, Probability, ◌≼◌}
use Rattle.theory.specs.FaultTree.{Tree, beneath, Each}
use Rattle.theory.specs.Unreliability.{fails, unreliability}
use Rattle.theory.specs.Interval.{Interval, Inside, Ordered}
use Rattle.theory.specs.Rounding.{down, up}
use Rattle.theory.specs.Promise.{exact_end}
use Rattle.theory.proofs.Each.{each_map, each_both}
use Rattle.theory.proofs.Expectation.{bit, Probable, denominator_positive, expect_not}
use Rattle.theory.proofs.ExpectationRises.{Raised, expect_rises}
use Rattle.theory.proofs.StructureFunction.{fails_rises}
use Rattle.theory.proofs.FractionOrder.{at_most_trans}
use Rattle.theory.proofs.UnreliabilityIsBottomUp.{expected, unreliability_expected, unreliability_positive}

-- the unreliability is a probability
pub unreliability_probability : (p : ℕ → Fraction) (t : Tree) → Each (Probable p) (beneath t)
    → Probability (unreliability p t)
unreliability_probability p t h =
    let x : Fraction = expected p t in
    let bounded : x.num ≤ x.den = le_trans (le-add_right _ _) (le_of_eq (expect_not p (beneath t) (fails t) h)) in
    record {
      positive = unreliability_positive p t h;
      at_most_one = le_of_mul-le-mul_right {k = x.den}
          (omega (arith, unreliability_expected p t, mul-le-mul_right (unreliability p t).den bounded))
          (denominator_positive p (beneath t) h);
    }

-- it rises with every event's probability
pub unreliability_rises : (p q : ℕ → Fraction) (t : Tree)
    → Each (Probable p) (beneath t) → Each (Probable q) (beneath t) → Each (Raised p q) (beneath t)
    → unreliability p t ≼ unreliability q t
unreliability_rises p q t hp hq r =
    at_most_trans (unreliability p t) (expected p t) (unreliability q t) (denominator_positive p (beneath t) hp)
    (le_of_eq (unreliability_expected p t))
    (at_most_trans (expected p t) (expected q t) (unreliability q t) (denominator_positive q (beneath t) hq)
    (expect_rises p q (beneath t) (λ s. bit (fails t s)) (fails_rises t) hp hq r)
    (le_of_eq (sym (unreliability_expected q t))))

-- a fraction inside an interval of probabilities is a probability
inside_probability : (x : Interval) (p : Fraction) → Ordered x → Inside x p → Probability p
inside_probability x p h i =
    let top : x.upper.num * p.den ≤ x.upper.den * p.den
    = mul-le-mul_right p.den h.upper_probability.at_most_one in
    let crossed : p.num * x.upper.den ≤ p.den * x.upper.den = omega (arith, i.below) in
    record { positive = i.positive; at_most_one = le_of_mul-le-mul_right crossed h.upper_probability.positive }

-- the top probability lies between the exact ends, whatever the events' fractions are inside their cuts
pub between_exact_ends : (cuts : ℕ → Interval) (t : Tree) (p : ℕ → Fraction) → Each (λ e. Ordered (cuts e)) (beneath t)
    → Each (λ e. Inside (cuts e) (p e)) (beneath t)
    → Inside (record { lower = exact_end down cuts t; upper = exact_end up cuts t }) (unreliability p t)
between_exact_ends cuts t p h c =
    let chosen : Each (Probable p) (beneath t)
    = each_both _ _ _ (λ e. inside_probability (cuts e) (p e)) (beneath t) h c in
    record {
      positive = (unreliability_probability p t chosen).positive;
      above = unreliability_rises _ p t (each_map _ _ (λ e o. o.lower_probability) (beneath t) h) chosen
          (each_map _ _ (λ e i. i.above) (beneath t) c);
      below = unreliability_rises p _ t chosen (each_map _ _ (λ e o. o.upper_probability) (beneath t) h)
          (each_map _ _ (λ e i. i.below) (beneath t) c);
    }
