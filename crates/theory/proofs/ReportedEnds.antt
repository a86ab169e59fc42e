-- The main theorems on a tree: what is promised of each reported end (demand 3), that the exact ends are the ends of
-- the alpha-cut of 004 (demand 2), and that the top probability lies in the reported interval.
use Prim.Native.Nat.{ℕ, ◌-◌, ◌*◌, ◌≤◌, ◌<◌}
use mathlib.Core.Path.{sym}
use mathlib.Core.Bool.{Bool, true, false, not}
use native.Mathlib.Nat.{le_of_lt, le_of_eq}
use lib.Dec.{T}
use lib.ListN.{length}
use Rattle.theory.specs.Fraction.{Fraction, Probability, SameProbability, ◌≼◌, ◌≺◌, ◌≈◌, in_units}
use Rattle.theory.specs.FaultTree.{Tree, events, Each}
use Rattle.theory.specs.Unreliability.{unreliability}
use Rattle.theory.specs.BottomUp.{bottom_up}
use Rattle.theory.specs.Interval.{Interval, Inside, Ordered, units_interval, interval_bottom_up}
use Rattle.theory.specs.Rounding.{Direction, down, up, End, end_of, reported}
use Rattle.theory.specs.Promise.{under, over, Promised, exact_end}
use Rattle.theory.proofs.Distinct.{Distinct}
use Rattle.theory.proofs.FractionOrder.{at_most_trans}
use Rattle.theory.proofs.BottomUpProbability.{bottom_up_probability}
use Rattle.theory.proofs.Each.{each_map, each_beneath}
use Rattle.theory.proofs.Expectation.{Probable}
use Rattle.theory.proofs.UnreliabilityIsBottomUp.{unreliability_is_bottom_up, distinct_repeats_certain}
use Rattle.theory.proofs.UnreliabilityRises.{unreliability_probability, between_exact_ends}
use Rattle.theory.proofs.CutIsBottomUp.{cut_is_bottom_up}
use Rattle.theory.proofs.RoundedTree.{rounded_end_gap}
use Rattle.theory.proofs.Promised.{end_promised, promised_respects}

-- both ends of an interval of probabilities are probabilities
pub end_probability : (w : Direction) (x : Interval) → Ordered x → Probability (end_of w x)
end_probability down x h = h.lower_probability
end_probability up x h = h.upper_probability

-- a promised end is on the safe side
pub promised_safe : (U : ℕ) (w : Direction) (A : ℕ) (r : End) (x : Fraction) → Promised U w A r x
    → under w (in_units U r.value) x ≼ over w (in_units U r.value) x
promised_safe U w A r x h = go w r.exact h.marked h.unmarked
  where
    v : Fraction
    v = in_units U r.value

    go : (w : Direction) (m : Bool) → (T m → v ≈ x) → (T (not m) → under w v x ≺ over w v x) → under w v x ≼ over w v x
    go down true e s = le_of_eq (e tt)
    go up true e s = le_of_eq (sym (e tt))
    go w false e s = le_of_lt (s tt)

-- demand 2: where no event stands twice, the sum over all cut sets is the bottom-up reckoning
pub unreliability_agrees : (p : ℕ → Fraction) (t : Tree) → Distinct (events t) → Each (Probable p) (events t)
    → SameProbability (unreliability p t) (bottom_up p t)
unreliability_agrees p t distinct h = record {
  left = unreliability_probability p t (each_beneath _ t h);
  right = bottom_up_probability t p h;
  equal = unreliability_is_bottom_up p t h (distinct_repeats_certain t p distinct);
}

module _ (cuts : ℕ → Interval) (t : Tree) (ordered : Each (λ e. Ordered (cuts e)) (events t)) where
  -- the ends of the events' cuts are probabilities
  ends_probable : (w : Direction) → Each (Probable (λ e. end_of w (cuts e))) (events t)
  ends_probable w = each_map _ _ (λ e. end_probability w (cuts e)) (events t) ordered

  -- a node's exact ends are probabilities
  pub exact_end_probability : (w : Direction) → Probability (exact_end w cuts t)
  exact_end_probability w = unreliability_probability _ t (each_beneath _ t (ends_probable w))

  -- no reported end passes 1
  pub reported_at_most : (U : ℕ) → 0 < U → (w : Direction) → (reported U w cuts t).value ≤ U
  reported_at_most U pos w = (rounded_end_gap U pos w (λ e. end_of w (cuts e)) t (ends_probable w)).bounded

  module _ (distinct : Distinct (events t)) where
    -- a node's exact end is the bottom-up reckoning at the events' ends
    exact_end_is_bottom_up : (w : Direction)
        → SameProbability (exact_end w cuts t) (bottom_up (λ e. end_of w (cuts e)) t)
    exact_end_is_bottom_up w = unreliability_agrees (λ e. end_of w (cuts e)) t distinct (ends_probable w)

    -- demand 2: the exact ends are the ends of the alpha-cut that 004 gives the node
    pub exact_end_is_cut : (w : Direction)
        → SameProbability (exact_end w cuts t) (end_of w (interval_bottom_up cuts t))
    exact_end_is_cut down = rw (cut_is_bottom_up cuts t ordered) (exact_end_is_bottom_up down)
    exact_end_is_cut up = rw (cut_is_bottom_up cuts t ordered) (exact_end_is_bottom_up up)

    -- demand 3: every reported end keeps its promise, for 2 × E − 1 units where E events stand in the tree
    pub reported_promised : (U : ℕ) → 0 < U → (w : Direction)
        → Promised U w (2 * length (events t) - 1) (reported U w cuts t) (exact_end w cuts t)
    reported_promised U pos w =
        let p : ℕ → Fraction = λ e. end_of w (cuts e) in
        let same = exact_end_is_bottom_up w in
        promised_respects U w _ (reported U w cuts t) (bottom_up p t) (exact_end w cuts t) pos
        same.right.positive same.left.positive (sym same.equal) (end_promised U pos w p t (ends_probable w))

    -- demand 3: whatever fractions the events have inside their cuts, the top probability lies in the reported interval
    pub top_contained : (U : ℕ) → 0 < U → (p : ℕ → Fraction) → Each (λ e. Inside (cuts e) (p e)) (events t)
        → Inside (units_interval U (reported U down cuts t).value (reported U up cuts t).value) (unreliability p t)
    top_contained U pos p chosen =
        let inner = between_exact_ends cuts t p (each_beneath _ t ordered) (each_beneath _ t chosen) in
        let safe : (w : Direction) → _ = λ w. promised_safe U w _ (reported U w cuts t) (exact_end w cuts t)
        (reported_promised U pos w) in
        record {
          positive = inner.positive;
          above = at_most_trans (in_units U (reported U down cuts t).value) (exact_end down cuts t) (unreliability p t)
              (exact_end_probability down).positive (safe down) inner.above;
          below = at_most_trans (unreliability p t) (exact_end up cuts t) (in_units U (reported U up cuts t).value)
              (exact_end_probability up).positive inner.below (safe up);
        }
