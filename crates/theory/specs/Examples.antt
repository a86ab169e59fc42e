-- The table of proved examples (01, P1 to P12): a tree, its events' numbers, a level, and the ends and marks reported.
-- 004's examples 4 and 5: the road trip's cut sets, their weights and its unreliability.
use Rattle.std.specs.Prelude.{ℕ, ◌≡◌, true, false, cond, List, [], ◌∷◌, map, get_or}
use Rattle.theory.specs.Fraction.{Fraction, in_units}
use Rattle.theory.specs.FaultTree.{GateKind, all, any, Tree, basic, gate, only, more, beneath}
use Rattle.theory.specs.Unreliability.{EventSet, cut_sets, weight, unreliability}
use Rattle.theory.specs.BottomUp.{bottom_up}
use Rattle.theory.specs.Trapezoid.{Trapezoid, cut}
use Rattle.theory.specs.Opinion.{says, low, fairly_low, medium, fairly_high, high, mean}
use Rattle.theory.specs.CutSetFamily.{family}
use Rattle.theory.specs.Unit.{billion}
use Rattle.theory.specs.Rounding.{Direction, End, reported}

-- four numbers in billionths
abbrev pub numbers : ℕ → ℕ → ℕ → ℕ → Trapezoid
numbers a b c d = record { den = billion; a = a; b = b; c = c; d = d }

-- four equal numbers
abbrev pub crisp : ℕ → Trapezoid
crisp v = numbers v v v v

-- a value that is marked exact
abbrev pub exactly : ℕ → End
exactly v = record { value = v; exact = true }

-- a value that is not
abbrev pub about : ℕ → End
about v = record { value = v; exact = false }

-- event i has the number at place i of `entries`; the level is k of n
pub record Example : Type 0 where
  pub tree : Tree
  pub entries : List Trapezoid
  pub k : ℕ
  pub n : ℕ
  pub lower : End
  pub upper : End

-- what the rounded evaluation reports of an example, in a direction; every event has an entry, none takes the default
abbrev pub outcome : Direction → Example → End
outcome w x = reported billion w (λ e. cut (get_or x.entries e (crisp 0)) x.k x.n) x.tree

-- event 0 alone
abbrev pub single : Tree
single = basic 0

-- event 0 and event 1 under one gate
abbrev pub pair : GateKind → Tree
pair kind = gate kind (more (basic 0) (only (basic 1)))

-- 004's road trip (figure 3): the phone (a, event 0) and either the engine (b, event 1) or the battery (c, event 2)
abbrev pub road_trip : Tree
road_trip = gate all (more (basic 0) (only (gate any (more (basic 1) (only (basic 2))))))

-- scores 2 and 1, who say Low and Fairly Low
abbrev pub two_experts : Trapezoid
two_experts = mean (says 2 low ∷ says 1 fairly_low ∷ [])

-- the scores of 000, with terms 6, 5, 6, 4, 6, 4
abbrev pub six_experts : Trapezoid
six_experts =
    mean (says 15 high ∷ says 12 fairly_high ∷ says 10 high ∷ says 12 medium ∷ says 5 high ∷ says 8 medium ∷ [])

abbrev pub spread : Trapezoid
spread = numbers 0 1 1 2

-- the level is 1 of 2 unless said
abbrev pub halfway : Tree → List Trapezoid → End → End → Example
halfway t entries l u = record { tree = t; entries = entries; k = 1; n = 2; lower = l; upper = u }

-- a single entry at level k of 2
abbrev pub at_level : ℕ → Trapezoid → End → End → Example
at_level k z l u = record { tree = single; entries = z ∷ []; k = k; n = 2; lower = l; upper = u }

abbrev pub P1 : Example
P1 = halfway (pair all) (crisp 1 ∷ crisp 1 ∷ []) (about 0) (about 1)

abbrev pub P2 : Example
P2 = halfway (pair all) (crisp billion ∷ crisp 7 ∷ []) (exactly 7) (exactly 7)

abbrev pub P3 : Example
P3 = halfway (pair all) (crisp 500_000_000 ∷ crisp 3 ∷ []) (about 1) (about 2)

abbrev pub P4 : Example
P4 = halfway (pair any) (crisp 1 ∷ crisp 1 ∷ []) (about 1) (about 2)

abbrev pub P5 : Example
P5 = halfway single (spread ∷ []) (about 0) (about 2)

abbrev pub P6 : Example
P6 = halfway (pair all) (spread ∷ crisp 0 ∷ []) (exactly 0) (exactly 0)

abbrev pub P7 : Example
P7 = halfway (pair all) (spread ∷ crisp 1 ∷ []) (about 0) (about 1)

abbrev pub P8 : Example
P8 =
    halfway road_trip (crisp 800_000_000 ∷ crisp 100_000_000 ∷ crisp 400_000_000 ∷ []) (exactly 368_000_000)
    (exactly 368_000_000)

abbrev pub P9 : Example
P9 = at_level 2 two_experts (about 176_666_666) (about 176_666_667)

abbrev pub P10 : Example
P10 = at_level 0 two_experts (about 103_333_333) (exactly 250_000_000)

abbrev pub P11 : Example
P11 = at_level 0 six_experts (about 624_838_709) (about 818_387_097)

abbrev pub P12 : Example
P12 = at_level 2 six_experts (about 723_548_387) (about 723_548_388)

abbrev pub table : List Example
table = P1 ∷ P2 ∷ P3 ∷ P4 ∷ P5 ∷ P6 ∷ P7 ∷ P8 ∷ P9 ∷ P10 ∷ P11 ∷ P12 ∷ []

-- 004, Example 4: p(a) = 0.8, p(b) = 0.1, p(c) = 0.4; there is no further event to take the default
abbrev pub road_trip_probability : ℕ → Fraction
road_trip_probability e = in_units 10 (get_or (8 ∷ 1 ∷ 4 ∷ []) e 0)

-- a set of its events as 004 writes it: the digits of a, b, c
abbrev pub digits : EventSet → List ℕ
digits s = map (λ e. cond (s e) 1 0) (0 ∷ 1 ∷ 2 ∷ [])

-- What 004 reckons of the road trip in its examples 4 and 5.
pub record Examples4And5 : Type 0 where
  -- the cut sets are 101, 110 and 111
  pub cut_sets_are : map digits (cut_sets road_trip) ≡ (1 ∷ 0 ∷ 1 ∷ []) ∷ (1 ∷ 1 ∷ 0 ∷ []) ∷ (1 ∷ 1 ∷ 1 ∷ []) ∷ []
  -- their weights are 0.8 · 0.9 · 0.4, 0.8 · 0.1 · 0.6 and 0.8 · 0.1 · 0.4
  pub weights_are : map (weight road_trip_probability (beneath road_trip)) (cut_sets road_trip)
      ≡ map (in_units 1000) (288 ∷ 48 ∷ 32 ∷ [])
  -- the unreliability is their sum, 0.368
  pub unreliability_is : unreliability road_trip_probability road_trip ≡ in_units 1_000_000_000 368_000_000
  -- so it is by the bottom-up method, 0.8 · (1 − (1 − 0.1) · (1 − 0.4))
  pub bottom_up_is : bottom_up road_trip_probability road_trip ≡ in_units 1000 368

-- The road trip's minimal cut sets as 004 would write them: 110 and 101, since 111 has both inside it.
pub record RoadTripMinimal : Type 0 where
  pub count_is : (family road_trip).count ≡ 2
  pub sets_are : map (λ r. digits ((family road_trip).set r)) (0 ∷ 1 ∷ [])
      ≡ (1 ∷ 1 ∷ 0 ∷ []) ∷ (1 ∷ 0 ∷ 1 ∷ []) ∷ []
