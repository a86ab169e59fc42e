-- The alpha-cut that equation (6) of 004 gives a node from the events' alpha-cuts has as its ends the bottom-up
-- reckoning at all lower ends and at all upper ends.
use Prim.Native.Nat.{ℕ}
use mathlib.Core.Path.{◌≡◌, refl, ap, ap₂, ◌∙◌}
use mathlib.Core.Bool.{Bool, true, false, cond}
use mathlib.Core.List.{List, [], ◌∷◌, map}
use borrow.Author.Tests.{le-leb}
use Rattle.theory.specs.Fraction.{Fraction, ◌≼◌, at_most, one, ◌⊗◌, complement, product}
use Rattle.theory.specs.FaultTree.{GateKind, all, any, Tree, Inputs, basic, gate, only, more, events, all_events, Each}
use Rattle.theory.specs.BottomUp.{joined, bottom_up, all_bottom_up}
use Rattle.theory.specs.Interval.{Interval, Ordered, lesser, greater, times, minus, interval_one}
use Rattle.theory.specs.Interval.{interval_product, interval_joined, interval_bottom_up, all_intervals}
use Rattle.theory.proofs.FractionOrder.{at_most_refl, product_monotone, complement_antitone, one_minus}
use Rattle.theory.proofs.Each.{All, all_map, each_left, each_right}
use Rattle.theory.proofs.BottomUpProbability.{one_probability, product_probability, complement_probability}

-- the lesser of two fractions in order is the first
lesser_first : (f g : Fraction) → f ≼ g → lesser f g ≡ f
lesser_first f g h = ap (λ (b : Bool). cond b f g) (le-leb _ _ h)

-- the greater of two fractions in order is the second
greater_second : (f g : Fraction) → f ≼ g → greater f g ≡ g
greater_second f g h = ap (λ (b : Bool). cond b g f) (le-leb _ _ h)

-- what is at most two fractions is at most the lesser
below_lesser : (f g h : Fraction) → f ≼ g → f ≼ h → f ≼ lesser g h
below_lesser f g h l r = go (at_most g h)
  where
    go : (b : Bool) → f ≼ cond b g h
    go true = l
    go false = r

-- an interval by its two ends
abbrev between : Fraction → Fraction → Interval
between f g = record { lower = f; upper = g }

-- the product of intervals of probabilities multiplies lower ends with lower ends and upper ends with upper ends
times_ends : (x y : Interval) → Ordered x → Ordered y
    → times x y ≡ between (x.lower ⊗ y.lower) (x.upper ⊗ y.upper)
times_ends x y hx hy =
    let a = x.lower in
    let b = x.upper in
    let c = y.lower in
    let d = y.upper in
    let ac_ad : a ⊗ c ≼ a ⊗ d = product_monotone a a c d (at_most_refl a) hy.rising in
    let ac_bc : a ⊗ c ≼ b ⊗ c = product_monotone a b c c hx.rising (at_most_refl c) in
    let ad_bd : a ⊗ d ≼ b ⊗ d = product_monotone a b d d hx.rising (at_most_refl d) in
    let bc_bd : b ⊗ c ≼ b ⊗ d = product_monotone b b c d (at_most_refl b) hy.rising in
    let ac_bd : a ⊗ c ≼ b ⊗ d = product_monotone a b c d hx.rising hy.rising in
    ap₂ between
    (lesser_first (a ⊗ c) _ (below_lesser (a ⊗ c) (a ⊗ d) _ ac_ad (below_lesser (a ⊗ c) (b ⊗ c) (b ⊗ d) ac_bc ac_bd)))
    (ap (λ (f : Fraction). greater (a ⊗ c) (greater (a ⊗ d) f)) (greater_second (b ⊗ c) (b ⊗ d) bc_bd)
    ∙ ap (greater (a ⊗ c)) (greater_second (a ⊗ d) (b ⊗ d) ad_bd)
    ∙ greater_second (a ⊗ c) (b ⊗ d) ac_bd)

-- those ends are in order
product_ordered : (x y : Interval) → Ordered x → Ordered y
    → Ordered (between (x.lower ⊗ y.lower) (x.upper ⊗ y.upper))
product_ordered x y hx hy = record {
  lower_probability = product_probability x.lower y.lower hx.lower_probability hy.lower_probability;
  upper_probability = product_probability x.upper y.upper hx.upper_probability hy.upper_probability;
  rising = product_monotone x.lower x.upper y.lower y.upper hx.rising hy.rising;
}

-- the interval from 1 to 1 is one of probabilities
one_ordered : Ordered interval_one
one_ordered = record {
  lower_probability = one_probability;
  upper_probability = one_probability;
  rising = at_most_refl one;
}

-- 1 minus an interval exchanges its ends
minus_ends : (x : Interval) → minus interval_one x ≡ between (complement x.upper) (complement x.lower)
minus_ends x = ap₂ between (one_minus x.upper) (one_minus x.lower)

-- the exchanged ends are in order
complement_ordered : (x : Interval) → Ordered x → Ordered (between (complement x.upper) (complement x.lower))
complement_ordered x h = record {
  lower_probability = complement_probability x.upper h.upper_probability;
  upper_probability = complement_probability x.lower h.lower_probability;
  rising = complement_antitone x.lower x.upper h.lower_probability h.upper_probability h.rising;
}

-- every interval of a list is one of probabilities
abbrev AllOrdered : List Interval → Type 0
AllOrdered xs = All Ordered xs

-- the lower ends of a list of intervals
abbrev lowers : List Interval → List Fraction
lowers xs = map (λ x. x.lower) xs

-- the upper ends of a list of intervals
abbrev uppers : List Interval → List Fraction
uppers xs = map (λ x. x.upper) xs

-- the product of a list of intervals: its ends are the products of the ends, and it is ordered
product_ends : (xs : List Interval) → AllOrdered xs
    → (interval_product xs ≡ between (product (lowers xs)) (product (uppers xs))) × Ordered (interval_product xs)
product_ends [] h = (refl, one_ordered)
product_ends (x ∷ xs) h =
    let rest = product_ends xs h.1 in
    let whole = times_ends x (interval_product xs) h.0 rest.1 in (
      whole ∙ ap (λ (y : Interval). between (x.lower ⊗ y.lower) (x.upper ⊗ y.upper)) rest.0,
      rw whole (product_ordered x (interval_product xs) h.0 rest.1),
    )

-- 1 minus each of a list of intervals are intervals of probabilities
complements_ordered : (xs : List Interval) → AllOrdered xs → AllOrdered (map (minus interval_one) xs)
complements_ordered xs h =
    all_map Ordered Ordered (minus interval_one) (λ x o. rw (minus_ends x) (complement_ordered x o)) xs h

-- their lower ends are the complements of the upper ends
complements_lower : (xs : List Interval) → lowers (map (minus interval_one) xs) ≡ map complement (uppers xs)
complements_lower [] = refl
complements_lower (x ∷ xs) = ap₂ ◌∷◌ (one_minus x.upper) (complements_lower xs)

-- their upper ends are the complements of the lower ends
complements_upper : (xs : List Interval) → uppers (map (minus interval_one) xs) ≡ map complement (lowers xs)
complements_upper [] = refl
complements_upper (x ∷ xs) = ap₂ ◌∷◌ (one_minus x.lower) (complements_upper xs)

-- what a gate makes of a list of intervals: its ends are what it makes of the ends, and it is ordered
joined_ends : (k : GateKind) (xs : List Interval) → AllOrdered xs
    → (interval_joined k xs ≡ between (joined k (lowers xs)) (joined k (uppers xs))) × Ordered (interval_joined k xs)
joined_ends all xs h = product_ends xs h
joined_ends any xs h =
    let others = map (minus interval_one) xs in
    let inner = product_ends others (complements_ordered xs h) in
    let whole = minus_ends (interval_product others) in (
      whole ∙ ap (λ (y : Interval). between (complement y.upper) (complement y.lower)) inner.0
          ∙ ap₂ (λ (us ls : List Fraction). between (complement (product us)) (complement (product ls)))
          (complements_upper xs) (complements_lower xs),
      rw whole (complement_ordered (interval_product others) inner.1),
    )

mutual
  -- a node's alpha-cut: its ends are the bottom-up reckoning at the events' ends, and it is ordered
  cut_ends : (t : Tree) (cuts : ℕ → Interval) → Each (λ e. Ordered (cuts e)) (events t)
      → (interval_bottom_up cuts t ≡ between (bottom_up (λ e. (cuts e).lower) t) (bottom_up (λ e. (cuts e).upper) t))
      × Ordered (interval_bottom_up cuts t)
  cut_ends (basic e) cuts h = (refl, h.0)
  cut_ends (gate k ts) cuts h =
      let inner = all_cut_ends ts cuts h in
      let outer = joined_ends k (all_intervals cuts ts) inner.2 in
      (outer.0 ∙ ap₂ (λ (ls us : List Fraction). between (joined k ls) (joined k us)) inner.0 inner.1, outer.1)

  -- the same of the inputs of a gate
  all_cut_ends : (ts : Inputs) (cuts : ℕ → Interval) → Each (λ e. Ordered (cuts e)) (all_events ts)
      → (lowers (all_intervals cuts ts) ≡ all_bottom_up (λ e. (cuts e).lower) ts)
      × (uppers (all_intervals cuts ts) ≡ all_bottom_up (λ e. (cuts e).upper) ts) × AllOrdered (all_intervals cuts ts)
  all_cut_ends (only t) cuts h =
      let first = cut_ends t cuts h in (
        ap (λ (x : Interval). x.lower ∷ []) first.0,
        ap (λ (x : Interval). x.upper ∷ []) first.0,
        (first.1, tt),
      )
  all_cut_ends (more t ts) cuts h =
      let first = cut_ends t cuts (each_left _ (events t) (all_events ts) h) in
      let rest = all_cut_ends ts cuts (each_right _ (events t) (all_events ts) h) in (
        ap₂ (λ (x : Interval) (fs : List Fraction). x.lower ∷ fs) first.0 rest.0,
        ap₂ (λ (x : Interval) (fs : List Fraction). x.upper ∷ fs) first.0 rest.1,
        (first.1, rest.2),
      )

-- demand 2: the alpha-cut of every node is the bottom-up reckoning at all lower and at all upper ends
pub cut_is_bottom_up : (cuts : ℕ → Interval) (t : Tree) → Each (λ e. Ordered (cuts e)) (events t)
    → interval_bottom_up cuts t ≡ between (bottom_up (λ e. (cuts e).lower) t) (bottom_up (λ e. (cuts e).upper) t)
cut_is_bottom_up cuts t h = (cut_ends t cuts h).0
