-- The rounded end of a tree with E events is less than 2 × E − 1 units off its exact end.
use Prim.Native.Nat.{ℕ, ◌-◌, ◌*◌, ◌<◌}
use native.Mathlib.Omega.{arith}
use lib.ListN.{length, length-append}
use Rattle.theory.specs.Fraction.{Fraction, Probability}
use Rattle.theory.specs.FaultTree.{Tree, Inputs, basic, gate, only, more, events, all_events, Each}
use Rattle.theory.specs.BottomUp.{bottom_up, all_bottom_up}
use Rattle.theory.specs.Rounding.{Direction, End, cut_end, rounded_end, all_evaluated}
use Rattle.theory.proofs.Each.{each_left, each_right}
use Rattle.theory.proofs.BottomUpProbability.{all_bottom_up_probable}
use Rattle.theory.proofs.Rounded.{EndGap, cut_end_gap}
use Rattle.theory.proofs.RoundedGate.{EndGaps, no_gaps, add_gap, end_gaps_respects, gate_gap}

mutual
  -- a tree has an event
  pub events_positive : (t : Tree) → 0 < length (events t)
  events_positive (basic e) = omega arith
  events_positive (gate k ts) = all_events_positive ts

  -- so have the inputs of a gate
  pub all_events_positive : (ts : Inputs) → 0 < length (all_events ts)
  all_events_positive (only t) = events_positive t
  all_events_positive (more t ts) =
      let h : 0 < length (events t) = events_positive t in omega (arith, length-append (events t) (all_events ts))

module _ (U : ℕ) (i : 0 < U) (w : Direction) (p : ℕ → Fraction) where
  -- the rounded ends of the basic events
  abbrev leaf : ℕ → End
  leaf e = cut_end U w (p e)

  mutual
    -- the rounded end of a tree
    pub rounded_end_gap : (t : Tree) → Each (λ e. Probability (p e)) (events t)
        → EndGap U w (2 * length (events t) - 1) (rounded_end U w p t) (bottom_up p t)
    rounded_end_gap (basic e) h = cut_end_gap U w (p e) h.0
    rounded_end_gap (gate k ts) h =
        let z : 0 < length (all_events ts) = all_events_positive ts in
        gate_gap k i (omega arith) (all_bottom_up_probable ts p h) (inputs_gaps ts h)

    -- the rounded ends of a gate's inputs
    pub inputs_gaps : (ts : Inputs) → Each (λ e. Probability (p e)) (all_events ts)
        → EndGaps U w (2 * length (all_events ts)) (all_evaluated U w leaf ts) (all_bottom_up p ts)
    inputs_gaps (only t) h =
        let z : 0 < length (events t) = events_positive t in
        end_gaps_respects (omega arith) (add_gap (rounded_end_gap t h) no_gaps)
    inputs_gaps (more t ts) h =
        let z : 0 < length (events t) = events_positive t in
        end_gaps_respects (omega (arith, length-append (events t) (all_events ts)))
        (add_gap (rounded_end_gap t (each_left _ (events t) (all_events ts) h))
        (inputs_gaps ts (each_right _ (events t) (all_events ts) h)))
