-- The expectation of a function of event sets, over independent events: of sums, of constants, of functions that ignore
-- an event.
use Prim.Native.Nat.{ℕ, ◌+◌, ◌-◌, ◌*◌, ◌<◌}
use mathlib.Core.Path.{◌≡◌, refl, sym, ap, ap₂, ◌∙◌, fun_ext}
use mathlib.Core.Bool.{Bool, true, false, not}
use mathlib.Core.List.{List, [], ◌∷◌}
use native.Mathlib.Nat.{add-mul, sub-add_cancel, mul-pos}
use native.Mathlib.Omega.{arith}
use lib.Dec.{eqb, lit<}
use Rattle.theory.specs.Fraction.{Fraction, Probability}
use Rattle.theory.specs.FaultTree.{Each}
use Rattle.theory.specs.Unreliability.{EventSet, empty_set, with_event}
use Rattle.theory.proofs.Missing.{or_swap}

-- 1 for true, 0 for false
abbrev pub bit : Bool → ℕ
bit true = 1
bit false = 0

-- the product of the listed events' denominators: every weight of a set of them has it
abbrev pub common_denominator : (ℕ → Fraction) → List ℕ → ℕ
common_denominator p [] = 1
common_denominator p (e ∷ es) = (p e).den * common_denominator p es

-- the expectation of f over the sets of the listed events, as a numerator over their common denominator
abbrev pub expect : (ℕ → Fraction) → List ℕ → (EventSet → ℕ) → ℕ
expect p [] f = f empty_set
expect p (e ∷ es) f = ((p e).den - (p e).num) * expect p es f + (p e).num * expect p es (λ s. f (with_event e s))

-- f does not depend on the event e
abbrev pub Ignores : {A : Type 0} → ℕ → (EventSet → A) → Type 0
Ignores e f = (s : EventSet) → f (with_event e s) ≡ f s

-- the fraction of e is a probability
abbrev pub Probable : (ℕ → Fraction) → ℕ → Type 0
Probable p e = Probability (p e)

-- the common denominator of probabilities is above 0
pub denominator_positive : (p : ℕ → Fraction) (es : List ℕ) → Each (Probable p) es → 0 < common_denominator p es
denominator_positive p [] h = lit< tt
denominator_positive p (e ∷ es) h = mul-pos h.0.positive (denominator_positive p es h.1)

-- the expectation of a sum is the sum of the expectations
expect_sum : (p : ℕ → Fraction) (es : List ℕ) (f g : EventSet → ℕ)
    → expect p es (λ s. f s + g s) ≡ expect p es f + expect p es g
expect_sum p [] f g = refl
expect_sum p (e ∷ es) f g =
    ap₂ (λ (x y : ℕ). ((p e).den - (p e).num) * x + (p e).num * y) (expect_sum p es f g)
    (expect_sum p es (λ s. f (with_event e s)) (λ s. g (with_event e s)))
    ∙ omega arith

-- the two weights of an event, times a, make its denominator times a
weights_whole : (x : Fraction) → Probability x → (a : ℕ) → (x.den - x.num) * a + x.num * a ≡ x.den * a
weights_whole x h a =
    sym (add-mul (x.den - x.num) x.num a) ∙ ap (λ (n : ℕ). n * a) (sub-add_cancel h.at_most_one)

-- the expectation of 1 is 1
pub expect_one : (p : ℕ → Fraction) (es : List ℕ) → Each (Probable p) es
    → expect p es (λ s. 1) ≡ common_denominator p es
expect_one p [] h = refl
expect_one p (e ∷ es) h =
    ap (λ (x : ℕ). ((p e).den - (p e).num) * x + (p e).num * x) (expect_one p es h.1)
    ∙ weights_whole (p e) h.0 (common_denominator p es)

-- an event that f ignores leaves f's expectation over the other events as it is
pub expect_with : (p : ℕ → Fraction) (e : ℕ) (es : List ℕ) (f : EventSet → ℕ) → Ignores e f
    → expect p es (λ s. f (with_event e s)) ≡ expect p es f
expect_with p e es f i = ap (expect p es) (fun_ext i)

-- an event that f ignores multiplies f's expectation by its denominator
pub expect_ignored : (p : ℕ → Fraction) (e : ℕ) (es : List ℕ) (f : EventSet → ℕ) → Probable p e → Ignores e f
    → expect p (e ∷ es) f ≡ (p e).den * expect p es f
expect_ignored p e es f h i =
    ap (λ (x : ℕ). ((p e).den - (p e).num) * expect p es f + (p e).num * x) (expect_with p e es f i)
    ∙ weights_whole (p e) h (expect p es f)

-- the expectations of a test and of its negation make the whole
pub expect_not : (p : ℕ → Fraction) (es : List ℕ) (f : EventSet → Bool) → Each (Probable p) es
    → expect p es (λ s. bit (f s)) + expect p es (λ s. bit (not (f s))) ≡ common_denominator p es
expect_not p es f h =
    sym (expect_sum p es (λ s. bit (f s)) (λ s. bit (not (f s))))
    ∙ ap (expect p es) (fun_ext (λ s. one_of_two (f s)))
    ∙ expect_one p es h
  where
    one_of_two : (b : Bool) → bit b + bit (not b) ≡ 1
    one_of_two true = refl
    one_of_two false = refl

-- it does not matter in which order two events are added to a set
pub with_swap : (e i : ℕ) (s : EventSet) → with_event e (with_event i s) ≡ with_event i (with_event e s)
with_swap e i s = fun_ext (λ n. or_swap (eqb e n) (eqb i n) (s n))
