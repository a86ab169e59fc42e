-- An expectation rises with the function, and that of a rising function with every probability.
use Prim.Native.Nat.{ℕ, ◌+◌, ◌-◌, ◌*◌, ◌≤◌}
use mathlib.Core.Path.{◌≡◌, ap}
use mathlib.Core.List.{List, [], ◌∷◌}
use native.Mathlib.Nat.{le_refl, le_trans, le_of_eq, add-le-add, mul-le-mul_left, mul-le-mul_right}
use native.Mathlib.Nat.{sub-add_cancel, le_dest}
use native.Mathlib.Omega.{arith}
use Rattle.theory.specs.Fraction.{Fraction, Probability, ◌≼◌}
use Rattle.theory.specs.FaultTree.{Each}
use Rattle.theory.specs.Unreliability.{EventSet, empty_set, with_event}
use Rattle.theory.proofs.Expectation.{expect, common_denominator, Probable, with_swap}

-- f is at most g on every set
abbrev Below : (EventSet → ℕ) → (EventSet → ℕ) → Type 0
Below f g = (s : EventSet) → f s ≤ g s

-- a function that is at most another has at most its expectation
expect_below : (p : ℕ → Fraction) (es : List ℕ) (f g : EventSet → ℕ) → Below f g → expect p es f ≤ expect p es g
expect_below p [] f g h = h empty_set
expect_below p (e ∷ es) f g h =
    add-le-add (mul-le-mul_left ((p e).den - (p e).num) (expect_below p es f g h))
    (mul-le-mul_left (p e).num (expect_below p es _ _ (λ s. h (with_event e s))))

-- a further failed event never lowers f
abbrev pub Rises : (EventSet → ℕ) → Type 0
Rises f = (e : ℕ) (s : EventSet) → f s ≤ f (with_event e s)

-- what rises does so when another event has failed too
rises_with : (e : ℕ) (f : EventSet → ℕ) → Rises f → Rises (λ s. f (with_event e s))
rises_with e f h i s = le_trans (h i (with_event e s)) (le_of_eq (ap f (with_swap i e s)))

-- One event's part, on plain numbers: its weights q, n become r, m, of which m is the larger share; a and b are the
-- expectations without and with the event, the second the larger.
weights_rise : (q n r m a b : ℕ) → n * (r + m) ≤ m * (q + n) → a ≤ b
    → (q * a + n * b) * (r + m) ≤ (r * a + m * b) * (q + n)
weights_rise q n r m a b up h =
    rw (le_dest h).1 at (from_sum (le_dest h).0 (mul-le-mul_right (le_dest h).0 up))
  where
    from_sum : (j : ℕ) → n * (r + m) * j ≤ m * (q + n) * j
        → (q * a + n * (a + j)) * (r + m) ≤ (r * a + m * (a + j)) * (q + n)
    from_sum j more = omega arith

-- the expectations over the other events rise from a, b over D to a', b' over D'
others_rise : (q n d a b D a' b' D' : ℕ) → a * D' ≤ a' * D → b * D' ≤ b' * D
    → (q * a + n * b) * (d * D') ≤ (q * a' + n * b') * (d * D)
others_rise q n d a b D a' b' D' ha hb = omega (arith, mul-le-mul_left (d * q) ha, mul-le-mul_left (d * n) hb)

-- both together, at an event whose probability rises from x to y
event_rises : (x y : Fraction) → Probability x → Probability y → x ≼ y → (a b D a' b' D' : ℕ)
    → a * D' ≤ a' * D → b * D' ≤ b' * D → a' ≤ b'
    → ((x.den - x.num) * a + x.num * b) * (y.den * D') ≤ ((y.den - y.num) * a' + y.num * b') * (x.den * D)
event_rises x y hx hy up a b D a' b' D' ha hb h =
    from_sums (x.den - x.num) (y.den - y.num) (sub-add_cancel hx.at_most_one) (sub-add_cancel hy.at_most_one)
  where
    from_sums : (q r : ℕ) → q + x.num ≡ x.den → r + y.num ≡ y.den
        → (q * a + x.num * b) * (y.den * D') ≤ (r * a' + y.num * b') * (x.den * D)
    from_sums q r whole_x whole_y =
        let share : x.num * (r + y.num) ≤ y.num * (q + x.num) = rw (whole_x, whole_y) up in
        let weights : (q * a' + x.num * b') * y.den ≤ (r * a' + y.num * b') * x.den
        = rw (whole_x, whole_y) at (weights_rise q x.num r y.num a' b' share h) in
        le_trans (others_rise q x.num y.den a b D a' b' D' ha hb) (omega (arith, mul-le-mul_right D weights))

-- the probability of e rises from p to q
abbrev pub Raised : (ℕ → Fraction) → (ℕ → Fraction) → ℕ → Type 0
Raised p q e = p e ≼ q e

-- the expectation of a rising function rises with every probability, as a fraction
pub expect_rises : (p q : ℕ → Fraction) (es : List ℕ) (f : EventSet → ℕ)
    → Rises f → Each (Probable p) es → Each (Probable q) es → Each (Raised p q) es
    → expect p es f * common_denominator q es ≤ expect q es f * common_denominator p es
expect_rises p q [] f r hp hq k = le_refl (f empty_set * 1)
expect_rises p q (e ∷ es) f r hp hq k =
    event_rises (p e) (q e) hp.0 hq.0 k.0 (expect p es f) (expect p es (λ s. f (with_event e s)))
    (common_denominator p es) (expect q es f) (expect q es (λ s. f (with_event e s))) (common_denominator q es)
    (expect_rises p q es f r hp.1 hq.1 k.1)
    (expect_rises p q es (λ s. f (with_event e s)) (rises_with e f r) hp.1 hq.1 k.1)
    (expect_below q es f (λ s. f (with_event e s)) (r e))
