-- De Morgan's law on what is reported: of the dual tree, with every cut turned over, the end in a direction is what is
-- missing to U of the other end, with that end's mark.
use Prim.Native.Nat.{ℕ, ◌+◌, ◌-◌, ◌*◌, ◌≤◌, ◌<◌}
use native.Mathlib.Nat.{sub-le, sub-add_cancel, mul-le-mul_right}
use native.Mathlib.Omega.{arith}
use mathlib.Core.Path.{◌≡◌, refl, ap, ap₂, sym, ◌∙◌}
use mathlib.Core.List.{List, [], ◌∷◌, map}
use Rattle.theory.specs.Fraction.{Fraction, Probability, complement}
use Rattle.theory.specs.FaultTree.{GateKind, all, any, Tree, Inputs, basic, gate, only, more, events, all_events, Each}
use Rattle.theory.specs.Interval.{Interval, Ordered}
use Rattle.theory.specs.Trapezoid.{Trapezoid, Rising, cut}
use Rattle.theory.specs.Rounding.{Direction, down, up, opposite, End, start, end_complement, step, cut_end, run}
use Rattle.theory.specs.Rounding.{gate_end, evaluated, all_evaluated, end_of, reported}
use Rattle.theory.specs.Dual.{dual_kind, dual, duals, interval_complement, trapezoid_complement}
use Rattle.theory.proofs.Missing.{sub_mul}
use Rattle.theory.proofs.CutOrdered.{lower_mixture, upper_mixture}
use Rattle.theory.proofs.Each.{All, each_map, each_left, each_right}
use Rattle.theory.proofs.Rounded.{cut_end_gap, complement_gap, complement_at_most, complement_twice}
use Rattle.theory.proofs.Rounded.{step_at_most, start_at_most, end_gap_unique}
use Rattle.theory.proofs.ReportedEnds.{end_probability}

-- 1 − a probability is one
complement_probability : (f : Fraction) → Probability f → Probability (complement f)
complement_probability f p = record { positive = p.positive; at_most_one = sub-le f.den f.num }

-- a basic event's end, of what is missing to 1
cut_end_turned : (U : ℕ) (w : Direction) (f : Fraction) → Probability f
    → cut_end U (opposite w) (complement f) ≡ end_complement U (cut_end U w f)
cut_end_turned U w f p =
    end_gap_unique (cut_end_gap U (opposite w) (complement f) (complement_probability f p))
    (complement_gap p (cut_end_gap U w f p))

-- in either direction, of an interval turned over
leaf_turned : (U : ℕ) (w : Direction) (x : Interval) → Ordered x
    → cut_end U w (end_of w (interval_complement x)) ≡ end_complement U (cut_end U (opposite w) (end_of (opposite w) x))
leaf_turned U down x h = cut_end_turned U up x.upper h.upper_probability
leaf_turned U up x h = cut_end_turned U down x.lower h.lower_probability

-- of an event: its cut is an interval of probabilities, and the other one is that cut turned over
pub record TurnedCut (cuts others : ℕ → Interval) (e : ℕ) : Type 0 where
  pub ordered : Ordered (cuts e)
  pub is_complement : others e ≡ interval_complement (cuts e)

module _ (U : ℕ) (positive : 0 < U) where
  -- an end of at most U
  abbrev Within : End → Type 0
  Within x = x.value ≤ U

  abbrev turned : End → End
  turned = end_complement U

  -- ends turned over twice are as they were
  turned_twice : (xs : List End) → All Within xs → map turned (map turned xs) ≡ xs
  turned_twice [] h = refl
  turned_twice (x ∷ xs) h = ap₂ ◌∷◌ (complement_twice U x h.0) (turned_twice xs h.1)

  -- a running number stays at most U
  run_within : (w : Direction) (r : End) (xs : List End) → Within r → All Within xs → Within (run U w r xs)
  run_within w r [] k h = k
  run_within w r (x ∷ xs) k h =
      run_within w (step U w r x) xs (step_at_most U w r x positive k h.0) h.1

  all_turned_within : (xs : List End) → All Within (map turned xs)
  all_turned_within [] = tt
  all_turned_within (x ∷ xs) = (complement_at_most U x, all_turned_within xs)

  -- a gate's end is at most U
  gate_within : (w : Direction) (k : GateKind) (xs : List End) → All Within xs → Within (gate_end U w k xs)
  gate_within w all xs h = run_within w (start U) xs (start_at_most U) h
  gate_within w any xs h = complement_at_most U _

  -- a gate of the other kind, over its inputs' ends turned over
  gate_turned : (w : Direction) (k : GateKind) (xs : List End) → All Within xs
      → gate_end U w (dual_kind k) (map turned xs) ≡ turned (gate_end U (opposite w) k xs)
  gate_turned w all xs h = ap (λ ys. turned (run U (opposite w) (start U) ys)) (turned_twice xs h)
  gate_turned down any xs h =
      sym (complement_twice U _ (run_within down (start U) (map turned xs) (start_at_most U) (all_turned_within xs)))
  gate_turned up any xs h =
      sym (complement_twice U _ (run_within up (start U) (map turned xs) (start_at_most U) (all_turned_within xs)))

  module _ (w : Direction) (leaf other : ℕ → End) where
    -- of an event: its end is at most U, and the other one is what is missing to U
    pub record Turned (e : ℕ) : Type 0 where
      pub within : Within (leaf e)
      pub is_turned : other e ≡ turned (leaf e)

    mutual
      -- every end of a tree is at most U
      tree_within : (t : Tree) → Each Turned (events t) → Within (evaluated U (opposite w) leaf t)
      tree_within (basic e) h = h.0.within
      tree_within (gate k ts) h = gate_within (opposite w) k _ (inputs_within ts h)

      inputs_within : (ts : Inputs) → Each Turned (all_events ts) → All Within (all_evaluated U (opposite w) leaf ts)
      inputs_within (only t) h = (tree_within t h, tt)
      inputs_within (more t ts) h = (
        tree_within t (each_left _ (events t) (all_events ts) h),
        inputs_within ts (each_right _ (events t) (all_events ts) h),
      )

    mutual
      -- the dual's end, by the ends of its basic events
      evaluated_turned : (t : Tree) → Each Turned (events t)
          → evaluated U w other (dual t) ≡ turned (evaluated U (opposite w) leaf t)
      evaluated_turned (basic e) h = h.0.is_turned
      evaluated_turned (gate k ts) h =
          ap (gate_end U w (dual_kind k)) (inputs_turned ts h) ∙ gate_turned w k _ (inputs_within ts h)

      inputs_turned : (ts : Inputs) → Each Turned (all_events ts)
          → all_evaluated U w other (duals ts) ≡ map turned (all_evaluated U (opposite w) leaf ts)
      inputs_turned (only t) h = ap (λ x. x ∷ []) (evaluated_turned t h)
      inputs_turned (more t ts) h =
          ap₂ ◌∷◌ (evaluated_turned t (each_left _ (events t) (all_events ts) h))
          (inputs_turned ts (each_right _ (events t) (all_events ts) h))

  -- De Morgan's law
  pub dual_reported : (w : Direction) (cuts others : ℕ → Interval) (t : Tree) → Each (TurnedCut cuts others) (events t)
      → reported U w others (dual t) ≡ end_complement U (reported U (opposite w) cuts t)
  dual_reported w cuts others t h = evaluated_turned w _ _ t (each_map _ _ at_event (events t) h)
    where
      at_event : (e : ℕ) → TurnedCut cuts others e
          → Turned w (λ e. cut_end U (opposite w) (end_of (opposite w) (cuts e)))
          (λ e. cut_end U w (end_of w (others e))) e
      at_event e c = record {
        within = (cut_end_gap U (opposite w) _ (end_probability (opposite w) (cuts e) c.ordered)).bounded;
        is_turned = rw c.is_complement (leaf_turned U w (cuts e) c.ordered);
      }

-- what is missing to a top of the mixture of two numbers is the mixture of what is missing to it
mixture_turned : (top x y j k : ℕ) → x ≤ top → y ≤ top → (top - x) * j + (top - y) * k ≡ top * (j + k) - (x * j + y * k)
mixture_turned top x y j k p q =
    let x_within : x * j ≤ top * j = mul-le-mul_right j p in
    let y_within : y * k ≤ top * k = mul-le-mul_right k q in
    omega (arith, sub_mul top x j, sub_mul top y k)

-- the cut of four numbers turned over is the cut turned over
pub cut_turned : (z : Trapezoid) (k n : ℕ) → Rising z → k ≤ n
    → cut (trapezoid_complement z) k n ≡ interval_complement (cut z k n)
unfolding cut
cut_turned z k n h l = λ i. record {
  lower = record { num = lower i; den = z.den * n };
  upper = record { num = upper i; den = z.den * n };
}
  where
    a_most : z.a ≤ z.den
    a_most = omega (arith, h.a_b, h.b_c, h.c_d, h.d_den)

    b_most : z.b ≤ z.den
    b_most = omega (arith, h.b_c, h.c_d, h.d_den)

    c_most : z.c ≤ z.den
    c_most = omega (arith, h.c_d, h.d_den)

    whole : z.den * (n - k + k) ≡ z.den * n
    whole = ap (◌*◌ z.den) (sub-add_cancel l)

    lower : (z.den - z.d) * n + (z.den - z.c - (z.den - z.d)) * k
        ≡ z.den * n - (z.d * n - (z.d - z.c) * k)
    lower =
        lower_mixture (z.den - z.d) (z.den - z.c) k n (omega (arith, h.c_d)) l
        ∙ mixture_turned z.den z.d z.c (n - k) k h.d_den c_most
        ∙ ap₂ ◌-◌ whole (sym (upper_mixture z.c z.d k n h.c_d l))

    upper : (z.den - z.a) * n - (z.den - z.a - (z.den - z.b)) * k
        ≡ z.den * n - (z.a * n + (z.b - z.a) * k)
    upper =
        upper_mixture (z.den - z.b) (z.den - z.a) k n (omega (arith, h.a_b)) l
        ∙ mixture_turned z.den z.a z.b (n - k) k a_most b_most
        ∙ ap₂ ◌-◌ whole (sym (lower_mixture z.a z.b k n h.a_b l))

-- four numbers in order are in order turned over
pub complement_rising : (z : Trapezoid) → Rising z → Rising (trapezoid_complement z)
complement_rising z h = record {
  positive = h.positive;
  a_b = omega (arith, h.c_d);
  b_c = omega (arith, h.b_c);
  c_d = omega (arith, h.a_b);
  d_den = sub-le z.den z.a;
}

-- four numbers at most 1, turned over twice, are as they were
pub complement_restored : (z : Trapezoid) → Rising z → trapezoid_complement (trapezoid_complement z) ≡ z
complement_restored z h = λ i. record {
  den = z.den;
  a = back z.a (omega (arith, h.a_b, h.b_c, h.c_d, h.d_den)) i;
  b = back z.b (omega (arith, h.b_c, h.c_d, h.d_den)) i;
  c = back z.c (omega (arith, h.c_d, h.d_den)) i;
  d = back z.d h.d_den i;
}
  where
    back : (x : ℕ) → x ≤ z.den → z.den - (z.den - x) ≡ x
    back x l = omega arith
