-- Silence is no agreement: where the term of an expert with a score is taken away, the cut of the mean at every level
-- is wider than before.
use Prim.Native.Nat.{ℕ, ◌+◌, ◌*◌, ◌≤◌, ◌<◌}
use mathlib.Core.Path.{◌≡◌, ap}
use mathlib.Core.List.{List, ◌∷◌, ◌++◌}
use native.Mathlib.Nat.{mul-le-mul_left}
use native.Mathlib.Omega.{arith}
use lib.Dec.{lit<}
use Rattle.theory.specs.Interval.{Wider}
use Rattle.theory.specs.Trapezoid.{Trapezoid, cut}
use Rattle.theory.specs.Opinion.{Term, very_low, low, fairly_low, medium, fairly_high, high, very_high, term_a}
use Rattle.theory.specs.Opinion.{term_b, term_d, Opinion, says, silent, opinion_numbers, total_score, weighted, mean}
use Rattle.theory.proofs.MeanRising.{total_append, weighted_append, opinion_rising, mean_rising}
use Rattle.theory.proofs.CutWider.{Spread, cut_wider}

-- no term has all from 0 to 1 between its a and its d
term_spread : (t : Term) → term_d t < term_a t + 100
term_spread very_low = lit< tt
term_spread low = lit< tt
term_spread fairly_low = lit< tt
term_spread medium = lit< tt
term_spread fairly_high = lit< tt
term_spread high = lit< tt
term_spread very_high = lit< tt

module _ (before after : List Opinion) (score : ℕ) (t : Term) (counts : 0 < score) where
  -- the opinions with the term of one expert, and with silence in its place
  abbrev pub with_term : List Opinion
  with_term = before ++ (says score t ∷ after)

  abbrev pub without_term : List Opinion
  without_term = before ++ (silent score ∷ after)

  -- the scores stay, and a sum has silence's number in place of the term's
  same_score : total_score without_term ≡ total_score with_term
  same_score = omega (arith, total_append before (silent score ∷ after), total_append before (says score t ∷ after))

  exchanged : (f : Trapezoid → ℕ)
      → weighted f without_term + score * f (opinion_numbers (says score t))
      ≡ weighted f with_term + score * f (opinion_numbers (silent score))
  exchanged f =
      omega (
        arith,
        weighted_append f before (silent score ∷ after),
        weighted_append f before (says score t ∷ after),
      )

  -- the mean spreads further
  spread : Spread (mean without_term) (mean with_term)
  spread =
      let rising = opinion_rising (says score t) in
      let c_d : score * term_b t ≤ score * term_d t = mul-le-mul_left score rising.c_d in
      let d_most : score * term_d t ≤ score * 100 = mul-le-mul_left score rising.d_den in
      record {
        den = ap (λ (s : ℕ). 100 * s) same_score;
        a = omega (arith, exchanged (λ z. z.a));
        b = omega (arith, exchanged (λ z. z.b));
        c = omega (arith, exchanged (λ z. z.c));
        d = omega (arith, exchanged (λ z. z.d));
        a_d =
            omega (
              arith,
              exchanged (λ z. z.a),
              exchanged (λ z. z.d),
              mul-le-mul_left score (term_spread t),
            );
        b_c = omega (arith, exchanged (λ z. z.b), exchanged (λ z. z.c));
      }

  -- the cut of the mean is wider
  pub silence_widens : (k n : ℕ) → 0 < n → k ≤ n → Wider (cut (mean without_term) k n) (cut (mean with_term) k n)
  silence_widens k n pos l =
      cut_wider (mean without_term) (mean with_term)
      (mean_rising without_term (omega (arith, total_append before (silent score ∷ after))))
      (mean_rising with_term (omega (arith, total_append before (says score t ∷ after)))) spread k n pos l
