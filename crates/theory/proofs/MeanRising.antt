-- The sums that a mean is made of, and the mean's order: a ≤ b ≤ c ≤ d ≤ 1 wherever there is a score.
use Prim.Native.Nat.{ℕ, zero-le, ◌+◌, ◌*◌, ◌≤◌, ◌<◌}
use mathlib.Core.Path.{◌≡◌, refl}
use mathlib.Core.List.{List, [], ◌∷◌, ◌++◌}
use native.Mathlib.Nat.{le_refl, add-le-add, mul-le-mul_left}
use native.Mathlib.Omega.{arith}
use lib.Dec.{lit<, lit≤}
use Rattle.theory.specs.Trapezoid.{Trapezoid, Rising}
use Rattle.theory.specs.Opinion.{Term, very_low, low, fairly_low, medium, fairly_high, high, very_high, term_a}
use Rattle.theory.specs.Opinion.{term_b, term_d, Opinion, says, silent, score_of, opinion_numbers, total_score}
use Rattle.theory.specs.Opinion.{weighted, mean}

-- the scores in one list and then in another add up
pub total_append : (os ps : List Opinion) → total_score (os ++ ps) ≡ total_score os + total_score ps
total_append [] ps = omega arith
total_append (o ∷ os) ps = omega (arith, total_append os ps)

-- so do the weighted numbers of their opinions
pub weighted_append : (f : Trapezoid → ℕ) (os ps : List Opinion) → weighted f (os ++ ps) ≡ weighted f os + weighted f ps
weighted_append f [] ps = omega arith
weighted_append f (o ∷ os) ps = omega (arith, weighted_append f os ps)

-- a mean rises with the numbers of the opinions
weighted_monotone : (f g : Trapezoid → ℕ) → ((o : Opinion) → f (opinion_numbers o) ≤ g (opinion_numbers o))
    → (os : List Opinion) → weighted f os ≤ weighted g os
weighted_monotone f g h [] = zero-le
weighted_monotone f g h (o ∷ os) = add-le-add (mul-le-mul_left (score_of o) (h o)) (weighted_monotone f g h os)

-- no mean lies above the largest number of an opinion
pub weighted_at_most : (f : Trapezoid → ℕ) (top : ℕ) → ((o : Opinion) → f (opinion_numbers o) ≤ top)
    → (os : List Opinion) → weighted f os ≤ top * total_score os
weighted_at_most f top h [] = zero-le
weighted_at_most f top h (o ∷ os) =
    omega (arith, mul-le-mul_left (score_of o) (h o), weighted_at_most f top h os)

-- the numbers of each term are in order, and at most 100 hundredths
term_rising : (t : Term) → (term_a t ≤ term_b t) × (term_b t ≤ term_d t) × (term_d t ≤ 100)
term_rising very_low = (lit≤ tt, lit≤ tt, lit≤ tt)
term_rising low = (lit≤ tt, lit≤ tt, lit≤ tt)
term_rising fairly_low = (lit≤ tt, lit≤ tt, lit≤ tt)
term_rising medium = (lit≤ tt, lit≤ tt, lit≤ tt)
term_rising fairly_high = (lit≤ tt, lit≤ tt, lit≤ tt)
term_rising high = (lit≤ tt, lit≤ tt, lit≤ tt)
term_rising very_high = (lit≤ tt, lit≤ tt, lit≤ tt)

-- so are those of each opinion
pub opinion_rising : (o : Opinion) → Rising (opinion_numbers o)
opinion_rising (says score t) =
    let rising = term_rising t in
    record {
      positive = lit< tt;
      a_b = rising.0;
      b_c = le_refl (term_b t);
      c_d = rising.1;
      d_den = rising.2;
    }
opinion_rising (silent score) =
    record { positive = lit< tt; a_b = lit≤ tt; b_c = lit≤ tt; c_d = lit≤ tt; d_den = lit≤ tt }

pub opinion_hundredths : (o : Opinion) → (opinion_numbers o).den ≡ 100
opinion_hundredths (says score t) = refl
opinion_hundredths (silent score) = refl

-- so the mean of opinions is in order
pub mean_rising : (os : List Opinion) → 0 < total_score os → Rising (mean os)
mean_rising os h = record {
  positive = omega arith;
  a_b = weighted_monotone (λ z. z.a) (λ z. z.b) (λ o. (opinion_rising o).a_b) os;
  b_c = weighted_monotone (λ z. z.b) (λ z. z.c) (λ o. (opinion_rising o).b_c) os;
  c_d = weighted_monotone (λ z. z.c) (λ z. z.d) (λ o. (opinion_rising o).c_d) os;
  d_den = weighted_at_most (λ z. z.d) 100 (λ o. omega (arith, (opinion_rising o).d_den, opinion_hundredths o)) os;
}
