-- A test holds with a probability: its negation, the conjunction of separated tests, a list of tests, and the verdict
-- of a gate over them.
use Prim.Native.Nat.{ℕ, ◌+◌, ◌-◌, ◌*◌, ◌<◌}
use mathlib.Core.Path.{◌≡◌, refl, sym, ap, ap₂, ◌∙◌, fun_ext}
use mathlib.Core.Bool.{Bool, true, false, not, ◌&&◌, ◌||◌}
use mathlib.Core.List.{List, [], ◌∷◌, map}
use native.Mathlib.Nat.{mul-one, one-mul, zero-mul, sub-add_cancel, eq_of_mul-eq-mul_right}
use native.Mathlib.Omega.{arith}
use Rattle.theory.specs.Fraction.{Fraction, Probability, one, ◌⊗◌, complement, product}
use Rattle.theory.specs.FaultTree.{GateKind, all, any, Each}
use Rattle.theory.specs.Unreliability.{EventSet, every, some, verdict}
use Rattle.theory.specs.BottomUp.{joined}
use Rattle.theory.proofs.Missing.{not_and}
use Rattle.theory.proofs.Each.{All, all_map, each_map}
use Rattle.theory.proofs.BottomUpProbability.{AllProbable, products_probable, complements_probable}
use Rattle.theory.proofs.Expectation.{bit, expect, Ignores, Probable, denominator_positive, expect_one}
use Rattle.theory.proofs.Expectation.{common_denominator, expect_not}
use Rattle.theory.proofs.ExpectationProduct.{Separated, separated_map, expect_product}

-- the test f holds with the probability x, over the sets of the events es
abbrev pub Holds : (ℕ → Fraction) → List ℕ → (EventSet → Bool) → Fraction → Type 0
Holds p es f x = expect p es (λ s. bit (f s)) * x.den ≡ x.num * common_denominator p es

-- tests that agree on every set hold with the same probability
pub holds_agree : (p : ℕ → Fraction) (es : List ℕ) (f g : EventSet → Bool) (x : Fraction)
    → ((s : EventSet) → f s ≡ g s) → Holds p es f x → Holds p es g x
holds_agree p es f g x same k =
    ap (λ (t : EventSet → Bool). expect p es (λ s. bit (t s)) * x.den) (fun_ext (λ s. sym (same s))) ∙ k

-- what is always true holds with the probability 1
holds_true : (p : ℕ → Fraction) (es : List ℕ) → Each (Probable p) es → Holds p es (λ s. true) one
holds_true p es h = mul-one (expect p es (λ s. 1)) ∙ expect_one p es h ∙ sym (one-mul (common_denominator p es))

-- the negation, on plain numbers: d is n and the rest m
rest_share : (F G D n m d : ℕ) → F + G ≡ D → m + n ≡ d → F * d ≡ n * D → G * d ≡ m * D
rest_share F G D n m d tests weights h = omega (arith, ap (λ x. x * d) tests, ap (λ x. x * D) weights, h)

-- a test fails with the complement of the probability with which it holds
holds_not : (p : ℕ → Fraction) (es : List ℕ) (f : EventSet → Bool) (x : Fraction)
    → Each (Probable p) es → Probability x → Holds p es f x → Holds p es (λ s. not (f s)) (complement x)
holds_not p es f x h hx k =
    rest_share (expect p es (λ s. bit (f s))) (expect p es (λ s. bit (not (f s)))) (common_denominator p es)
    x.num (x.den - x.num) x.den (expect_not p es f h) (sub-add_cancel hx.at_most_one) k

-- the conjunction, on plain numbers
product_share : (D H F G dx nx dy ny : ℕ) → 0 < D → H * D ≡ F * G → F * dx ≡ nx * D → G * dy ≡ ny * D
    → H * (dx * dy) ≡ nx * ny * D
product_share D H F G dx nx dy ny pos h hx hy = eq_of_mul-eq-mul_right D pos (H * (dx * dy)) (nx * ny * D)
    (omega (arith, ap (λ z. z * (dx * dy)) h, ap₂ ◌*◌ hx hy))

-- the bit of a conjunction is the product of the bits
bit_and : (a b : Bool) → bit (a && b) ≡ bit a * bit b
bit_and true b = sym (one-mul (bit b))
bit_and false b = sym (zero-mul (bit b))

-- two separated tests hold together with the product of their probabilities
holds_and : (p : ℕ → Fraction) (es : List ℕ) (f g : EventSet → Bool) (x y : Fraction)
    → Each (Probable p) es → Each (λ e. Separated (p e) (Ignores e f) (Ignores e g)) es
    → Holds p es f x → Holds p es g y → Holds p es (λ s. f s && g s) (x ⊗ y)
holds_and p es f g x y h k hf hg =
    product_share (common_denominator p es) _ (expect p es (λ s. bit (f s))) (expect p es (λ s. bit (g s)))
    x.den x.num y.den y.num (denominator_positive p es h) both hf hg
  where
    both : expect p es (λ s. bit (f s && g s)) * common_denominator p es
        ≡ expect p es (λ s. bit (f s)) * expect p es (λ s. bit (g s))
    both =
        ap (λ (u : EventSet → ℕ). expect p es u * common_denominator p es) (fun_ext (λ s. bit_and (f s) (g s)))
        ∙ expect_product p es (λ s. bit (f s)) (λ s. bit (g s)) h
        (each_map _ _ (λ e. separated_map (p e) (λ i s. ap bit (i s)) (λ i s. ap bit (i s))) es k)

-- every test of a list ignores e
abbrev pub AllIgnore : ℕ → List (EventSet → Bool) → Type 0
AllIgnore e fs = All (λ f. Ignores e f) fs

-- each event separates a test from those after it
abbrev pub AllSeparated : (ℕ → Fraction) → List ℕ → List (EventSet → Bool) → Type 0
AllSeparated p es [] = Unit {0}
AllSeparated p es (f ∷ fs) = Each (λ e. Separated (p e) (Ignores e f) (AllIgnore e fs)) es × AllSeparated p es fs

-- the tests hold with the listed probabilities
abbrev pub AllHold : (ℕ → Fraction) → List ℕ → List (EventSet → Bool) → List Fraction → Type 0
AllHold p es [] [] = Unit {0}
AllHold p es [] (x ∷ xs) = ⊥
AllHold p es (f ∷ fs) [] = ⊥
AllHold p es (f ∷ fs) (x ∷ xs) = Holds p es f x × AllHold p es fs xs

-- which of the tests hold of s
abbrev pub values : List (EventSet → Bool) → EventSet → List Bool
values fs s = map (λ f. f s) fs

-- whether all tests hold ignores what each of them does
every_ignores : (e : ℕ) (fs : List (EventSet → Bool)) → AllIgnore e fs → Ignores e (λ s. every (values fs s))
every_ignores e [] h s = refl
every_ignores e (f ∷ fs) h s = ap₂ ◌&&◌ (h.0 s) (every_ignores e fs h.1 s)

-- separated tests all hold with the product of their probabilities
every_holds : (p : ℕ → Fraction) (es : List ℕ) (fs : List (EventSet → Bool)) (xs : List Fraction)
    → Each (Probable p) es → AllSeparated p es fs → AllHold p es fs xs
    → Holds p es (λ s. every (values fs s)) (product xs)
every_holds p es [] [] h k hs = holds_true p es h
every_holds p es [] (x ∷ xs) h k hs = absurd hs
every_holds p es (f ∷ fs) [] h k hs = absurd hs
every_holds p es (f ∷ fs) (x ∷ xs) h k hs =
    holds_and p es f (λ s. every (values fs s)) x (product xs) h
    (each_map _ _ (λ e. separated_map (p e) (λ i. i) (every_ignores e fs)) es k.0)
    hs.0 (every_holds p es fs xs h k.1 hs.1)

-- the negated tests
abbrev negated : List (EventSet → Bool) → List (EventSet → Bool)
negated fs = map (λ f s. not (f s)) fs

-- negated tests ignore what the tests do
negated_ignore : (e : ℕ) (fs : List (EventSet → Bool)) → AllIgnore e fs → AllIgnore e (negated fs)
negated_ignore e fs h = all_map _ _ (λ f s. not (f s)) (λ f i s. ap not (i s)) fs h

-- negated tests are separated where the tests are
negated_separated : (p : ℕ → Fraction) (es : List ℕ) (fs : List (EventSet → Bool))
    → AllSeparated p es fs → AllSeparated p es (negated fs)
negated_separated p es [] h = tt
negated_separated p es (f ∷ fs) h = (
  each_map _ _ (λ e. separated_map (p e) (λ i s. ap not (i s)) (negated_ignore e fs)) es h.0,
  negated_separated p es fs h.1,
)

-- negated tests hold with the complements
negated_hold : (p : ℕ → Fraction) (es : List ℕ) (fs : List (EventSet → Bool)) (xs : List Fraction)
    → Each (Probable p) es → AllProbable xs → AllHold p es fs xs → AllHold p es (negated fs) (map complement xs)
negated_hold p es [] [] h q k = tt
negated_hold p es [] (x ∷ xs) h q k = absurd k
negated_hold p es (f ∷ fs) [] h q k = absurd k
negated_hold p es (f ∷ fs) (x ∷ xs) h q k =
    (holds_not p es f x h q.0 k.0, negated_hold p es fs xs h q.1 k.1)

-- some test holds where not all of the negated ones do
some_by_not : (fs : List (EventSet → Bool)) (s : EventSet) → not (every (values (negated fs) s)) ≡ some (values fs s)
some_by_not [] s = refl
some_by_not (f ∷ fs) s = not_and (f s) (every (values (negated fs) s)) ∙ ap (◌||◌ (f s)) (some_by_not fs s)

-- a gate over separated inputs fails with the probability that `joined` gives
pub verdict_holds : (k : GateKind) (p : ℕ → Fraction) (es : List ℕ) (fs : List (EventSet → Bool)) (xs : List Fraction)
    → Each (Probable p) es → AllProbable xs → AllSeparated p es fs → AllHold p es fs xs
    → Holds p es (λ s. verdict k (values fs s)) (joined k xs)
verdict_holds all p es fs xs h q a hs = every_holds p es fs xs h a hs
verdict_holds any p es fs xs h q a hs =
    let ys = map complement xs in
    holds_agree p es _ (λ s. some (values fs s)) (joined any xs) (some_by_not fs)
    (holds_not p es (λ s. every (values (negated fs) s)) (product ys) h
    (products_probable ys (complements_probable xs q))
    (every_holds p es (negated fs) ys h (negated_separated p es fs a) (negated_hold p es fs xs h q hs)))
