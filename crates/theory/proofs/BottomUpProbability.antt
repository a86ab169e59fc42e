-- The bottom-up method stays within the probabilities.
use Prim.Native.Nat.{ℕ}
use mathlib.Core.List.{List, [], ◌∷◌, map}
use native.Mathlib.Nat.{le_refl, mul-le-mul, mul-pos, sub-le}
use lib.Dec.{lit<}
use Rattle.theory.specs.Fraction.{Fraction, Probability, one, ◌⊗◌, complement, product}
use Rattle.theory.specs.FaultTree.{GateKind, all, any, Tree, Inputs, basic, gate, only, more, events, all_events, Each}
use Rattle.theory.specs.BottomUp.{joined, bottom_up, all_bottom_up}
use Rattle.theory.proofs.Each.{All, all_map, each_left, each_right}

-- every fraction of a list is a probability
abbrev pub AllProbable : List Fraction → Type 0
AllProbable xs = All Probability xs

-- 1 is a probability
pub one_probability : Probability one
one_probability = record { positive = lit< tt; at_most_one = le_refl 1 }

-- the product of two probabilities is one
pub product_probability : (x y : Fraction) → Probability x → Probability y → Probability (x ⊗ y)
product_probability x y h k = record {
  positive = mul-pos h.positive k.positive;
  at_most_one = mul-le-mul h.at_most_one k.at_most_one;
}

-- so is 1 minus a probability
pub complement_probability : (x : Fraction) → Probability x → Probability (complement x)
complement_probability x h = record { positive = h.positive; at_most_one = sub-le x.den x.num }

-- the product of a list of probabilities is one
pub products_probable : (xs : List Fraction) → AllProbable xs → Probability (product xs)
products_probable [] h = one_probability
products_probable (x ∷ xs) h = product_probability x (product xs) h.0 (products_probable xs h.1)

-- 1 minus each of a list of probabilities are probabilities
pub complements_probable : (xs : List Fraction) → AllProbable xs → AllProbable (map complement xs)
complements_probable xs h = all_map Probability Probability complement complement_probability xs h

-- what a gate makes of probabilities is one
joined_probability : (k : GateKind) (xs : List Fraction) → AllProbable xs → Probability (joined k xs)
joined_probability all xs h = products_probable xs h
joined_probability any xs h =
    let others = map complement xs in
    complement_probability (product others) (products_probable others (complements_probable xs h))

mutual
  -- the bottom-up method reckons a probability
  pub bottom_up_probability : (t : Tree) (p : ℕ → Fraction) → Each (λ e. Probability (p e)) (events t)
      → Probability (bottom_up p t)
  bottom_up_probability (basic e) p h = h.0
  bottom_up_probability (gate k ts) p h = joined_probability k (all_bottom_up p ts) (all_bottom_up_probable ts p h)

  -- it does so of each input of a gate
  pub all_bottom_up_probable : (ts : Inputs) (p : ℕ → Fraction) → Each (λ e. Probability (p e)) (all_events ts)
      → AllProbable (all_bottom_up p ts)
  all_bottom_up_probable (only t) p h = (bottom_up_probability t p h, tt)
  all_bottom_up_probable (more t ts) p h = (
    bottom_up_probability t p (each_left (λ e. Probability (p e)) (events t) (all_events ts) h),
    all_bottom_up_probable ts p (each_right (λ e. Probability (p e)) (events t) (all_events ts) h),
  )
