-- The literal sum over cut sets (specs/Unreliability) is an expectation.
use Prim.Native.Nat.{ℕ, ◌+◌, ◌-◌, ◌*◌, ◌<◌}
use mathlib.Core.Path.{◌≡◌, refl, sym, ap, ap₂, ◌∙◌}
use mathlib.Core.Bool.{Bool, true, false, not, cond, ◌||◌}
use mathlib.Core.List.{List, [], ◌∷◌, ◌++◌, map}
use native.Mathlib.Nat.{add-zero, zero-add, mul-one, mul-zero, zero-mul, mul-pos}
use native.Mathlib.Omega.{arith}
use lib.Dec.{T, eqb, lit<}
use borrow.Author.Rules.{rules}
use Rattle.theory.specs.Fraction.{Fraction, ◌≈◌, total}
use Rattle.theory.specs.FaultTree.{contains}
use Rattle.theory.specs.Unreliability.{EventSet, empty_set, with_event, subsets, those, factor, weight}
use Rattle.theory.proofs.Missing.{false_of_not, both_of_not_or, eqb_same, eqb_comm}
use Rattle.theory.proofs.Distinct.{Distinct}
use Rattle.theory.proofs.Each.{All, all_imply, all_map, all_append}
use Rattle.theory.proofs.Expectation.{bit, expect, common_denominator}

-- the sum of a number of each set
abbrev sum_on : (EventSet → ℕ) → List EventSet → ℕ
sum_on w [] = 0
sum_on w (s ∷ ss) = w s + sum_on w ss

-- its sum over the sets that pass a test
abbrev sum_over : (EventSet → ℕ) → (EventSet → Bool) → List EventSet → ℕ
sum_over w f ss = sum_on w (those f ss)

-- the first set adds its number where it passes
sum_over_cons : (w : EventSet → ℕ) (f : EventSet → Bool) (s : EventSet) (ss : List EventSet)
    → sum_over w f (s ∷ ss) ≡ bit (f s) * w s + sum_over w f ss
sum_over_cons w f s ss = go (f s)
  where
    go : (b : Bool) → sum_on w (cond b (s ∷ those f ss) (those f ss)) ≡ bit b * w s + sum_over w f ss
    go true = omega arith
    go false = omega arith

-- the sum over a joined list is the sum of the sums
sum_over_append : (w : EventSet → ℕ) (f : EventSet → Bool) (ss ts : List EventSet)
    → sum_over w f (ss ++ ts) ≡ sum_over w f ss + sum_over w f ts
sum_over_append w f [] ts = sym (zero-add _)
sum_over_append w f (s ∷ ss) ts =
    omega (arith, sum_over_cons w f s (ss ++ ts), sum_over_cons w f s ss, sum_over_append w f ss ts)

-- the sum over changed sets is that of the number and the test after the change
sum_over_map : (w : EventSet → ℕ) (f : EventSet → Bool) (g : EventSet → EventSet) (ss : List EventSet)
    → sum_over w f (map g ss) ≡ sum_over (λ s. w (g s)) (λ s. f (g s)) ss
sum_over_map w f g [] = refl
sum_over_map w f g (s ∷ ss) =
    omega (
      arith,
      sum_over_cons w f (g s) (map g ss),
      sum_over_map w f g ss,
      sum_over_cons (λ s. w (g s)) (λ s. f (g s)) s ss,
    )

-- a number that is c times another on every set has c times its sum
sum_over_scale : (c : ℕ) (w v : EventSet → ℕ) (f : EventSet → Bool) (ss : List EventSet)
    → All (λ s. w s ≡ c * v s) ss → sum_over w f ss ≡ c * sum_over v f ss
sum_over_scale c w v f [] h = sym (mul-zero c)
sum_over_scale c w v f (s ∷ ss) h =
    rw (sum_over_cons w f s ss, sum_over_cons v f s ss, h.0, sum_over_scale c w v f ss h.1) (omega arith)

-- a set of listed events lacks each event that is not listed
subsets_lack : (e : ℕ) (es : List ℕ) → T (not (contains e es)) → All (λ s. s e ≡ false) (subsets es)
subsets_lack e [] h = search rules
subsets_lack e (x ∷ xs) h =
    let (apart, absent) = both_of_not_or (eqb e x) (contains e xs) h in
    let other : eqb x e ≡ false = eqb_comm x e ∙ false_of_not (eqb e x) apart in
    let rest = subsets_lack e xs absent in
    all_append _ (subsets xs) (map (with_event x) (subsets xs)) rest
    (all_map _ _ (with_event x) (λ s k. ap₂ ◌||◌ other k) (subsets xs) rest)

-- the numerator of a set's weight
abbrev numerator : (ℕ → Fraction) → List ℕ → EventSet → ℕ
numerator p es s = (weight p es s).num

-- an event that is not listed changes no weight
weight_with : (p : ℕ → Fraction) (e : ℕ) (es : List ℕ) (s : EventSet) → T (not (contains e es))
    → numerator p es (with_event e s) ≡ numerator p es s
weight_with p e [] s h = refl
weight_with p e (x ∷ xs) s h =
    let (apart, absent) = both_of_not_or (eqb e x) (contains e xs) h in
    ap₂ (λ (b : Bool) (y : ℕ). (factor p (λ i. b || s i) x).num * y)
    (false_of_not (eqb e x) apart) (weight_with p e xs s absent)

-- an event outside a set multiplies its weight by 1 minus the event's probability
weight_outside : (p : ℕ → Fraction) (e : ℕ) (es : List ℕ) (s : EventSet) → s e ≡ false
    → numerator p (e ∷ es) s ≡ ((p e).den - (p e).num) * numerator p es s
weight_outside p e es s out = ap (λ (b : Bool). (factor p (λ i. b) e).num * numerator p es s) out

-- an event added to a set multiplies its weight by the event's probability
weight_added : (p : ℕ → Fraction) (e : ℕ) (es : List ℕ) (s : EventSet) → T (not (contains e es))
    → numerator p (e ∷ es) (with_event e s) ≡ (p e).num * numerator p es s
weight_added p e es s h =
    ap₂ (λ (b : Bool) (y : ℕ). (factor p (λ i. b || s i) e).num * y)
    (eqb_same e) (weight_with p e es s h)

-- the sum over the sets without a further event
sum_without_event : (p : ℕ → Fraction) (e : ℕ) (es : List ℕ) (f : EventSet → Bool) → T (not (contains e es))
    → sum_over (numerator p (e ∷ es)) f (subsets es) ≡ ((p e).den - (p e).num) * sum_over (numerator p es) f (subsets es)
sum_without_event p e es f h =
    sum_over_scale ((p e).den - (p e).num) (numerator p (e ∷ es)) (numerator p es) f (subsets es)
    (all_imply _ _ (weight_outside p e es) (subsets es) (subsets_lack e es h))

-- the sum over the sets with it
sum_with_event : (p : ℕ → Fraction) (e : ℕ) (es : List ℕ) (f : EventSet → Bool) → T (not (contains e es))
    → sum_over (numerator p (e ∷ es)) f (map (with_event e) (subsets es))
    ≡ (p e).num * sum_over (numerator p es) (λ s. f (with_event e s)) (subsets es)
sum_with_event p e es f h =
    sum_over_map (numerator p (e ∷ es)) f (with_event e) (subsets es)
    ∙ sum_over_scale (p e).num _ (numerator p es) _ (subsets es)
    (all_imply _ _ (λ s out. weight_added p e es s h) (subsets es) (subsets_lack e es h))

-- the sum of the numerators of the sets that pass a test is the test's expectation
numerators_expected : (p : ℕ → Fraction) (es : List ℕ) (f : EventSet → Bool) → Distinct es
    → sum_over (numerator p es) f (subsets es) ≡ expect p es (λ s. bit (f s))
numerators_expected p [] f h =
    sum_over_cons (numerator p []) f empty_set [] ∙ add-zero (bit (f empty_set) * 1) ∙ mul-one (bit (f empty_set))
numerators_expected p (e ∷ es) f h =
    sum_over_append (numerator p (e ∷ es)) f (subsets es) (map (with_event e) (subsets es))
    ∙ ap₂ ◌+◌
    (sum_without_event p e es f h.0 ∙ ap (◌*◌ ((p e).den - (p e).num)) (numerators_expected p es f h.1))
    (sum_with_event p e es f h.0
    ∙ ap (◌*◌ (p e).num) (numerators_expected p es (λ s. f (with_event e s)) h.1))

-- every weight has the common denominator
weight_denominator : (p : ℕ → Fraction) (es : List ℕ) (s : EventSet) → (weight p es s).den ≡ common_denominator p es
weight_denominator p [] s = refl
weight_denominator p (e ∷ es) s = ap₂ ◌*◌ (go (s e)) (weight_denominator p es s)
  where
    go : (b : Bool) → (factor p (λ i. b) e).den ≡ (p e).den
    go true = refl
    go false = refl

module _ (D : ℕ) (w : EventSet → Fraction) (shared : (s : EventSet) → (w s).den ≡ D) where
  -- the sum of fractions over one denominator: their numerators are added
  total_shared : (ss : List EventSet) → total (map w ss) ≈ record { num = sum_on (λ s. (w s).num) ss; den = D }
  total_shared [] = zero-mul D ∙ sym (zero-mul 1)
  total_shared (s ∷ ss) = rw (shared s) (omega (arith, ap (λ (n : ℕ). n * D) (total_shared ss)))

  -- its denominator is above 0 where theirs is
  total_positive : 0 < D → (ss : List EventSet) → 0 < (total (map w ss)).den
  total_positive pos [] = lit< tt
  total_positive pos (s ∷ ss) = mul-pos (rw (shared s) pos) (total_positive pos ss)

-- the literal sum of the weights of the sets that pass a test is the test's expectation, as a fraction
pub sum_is_expectation : (p : ℕ → Fraction) (es : List ℕ) (f : EventSet → Bool) → Distinct es
    → total (map (weight p es) (those f (subsets es)))
    ≈ record { num = expect p es (λ s. bit (f s)); den = common_denominator p es }
sum_is_expectation p es f h =
    let sum = total (map (weight p es) (those f (subsets es))) in
    total_shared (common_denominator p es) (weight p es) (weight_denominator p es) (those f (subsets es))
    ∙ ap (λ (n : ℕ). n * sum.den) (numerators_expected p es f h)

-- its denominator is above 0 where every event's is
pub sum_positive : (p : ℕ → Fraction) (es : List ℕ) (ss : List EventSet) → 0 < common_denominator p es
    → 0 < (total (map (weight p es) ss)).den
sum_positive p es ss pos = total_positive (common_denominator p es) (weight p es) (weight_denominator p es) pos ss
