-- The rounded end of a tree keeps what Promise.antt says of an end, and the promise holds of every equal fraction.
use Prim.Native.Nat.{ℕ, ◌-◌, ◌*◌, ◌≤◌, ◌<◌}
use native.Mathlib.Nat.{mul-pos, mul-lt-mul_of_pos_right, mul-le-mul_right}
use native.Mathlib.Omega.{arith}
use mathlib.Core.Path.{sym}
use lib.ListN.{length}
use Rattle.theory.specs.Fraction.{Fraction, Probability, ◌≈◌, in_units, plus_units}
use Rattle.theory.specs.FaultTree.{Tree, events, Each}
use Rattle.theory.specs.BottomUp.{bottom_up}
use Rattle.theory.specs.Rounding.{Direction, down, up, End, rounded_end}
use Rattle.theory.specs.Promise.{under, over, Promised}
use Rattle.theory.proofs.FractionEqual.{equal_trans, equal_below, below_equal, plus_units_equal}
use Rattle.theory.proofs.Rounded.{EndGap}
use Rattle.theory.proofs.RoundedTree.{events_positive, rounded_end_gap}

-- an end less than A units off keeps the promise for an allowance of A
pub promised_of_gap : {U A : ℕ} {r : End} {x : Fraction} (w : Direction)
    → 0 < U → 0 < A → EndGap U w A r x → Promised U w A r x
promised_of_gap down i z g = record {
  marked = g.outward.gap.marked;
  unmarked = g.outward.gap.unmarked;
  near = omega (arith, mul-lt-mul_of_pos_right (g.outward.gap.strictly_near z) i);
}
promised_of_gap up i z g = record {
  marked = λ t. sym (g.outward.gap.marked t);
  unmarked = g.outward.gap.unmarked;
  near = omega (arith, mul-lt-mul_of_pos_right (g.outward.gap.strictly_near z) i);
}

-- the rounded end of a tree in which E events stand keeps the promise for 2 × E − 1 units
pub end_promised : (U : ℕ) → 0 < U → (w : Direction) (p : ℕ → Fraction) (t : Tree)
    → Each (λ e. Probability (p e)) (events t)
    → Promised U w (2 * length (events t) - 1) (rounded_end U w p t) (bottom_up p t)
end_promised U i w p t h =
    let z : 0 < length (events t) = events_positive t in promised_of_gap w i (omega arith) (rounded_end_gap U i w p t h)

-- the allowance may grow
pub promised_widen : {U A B : ℕ} {r : End} {x : Fraction} (w : Direction)
    → A ≤ B → Promised U w A r x → Promised U w B r x
promised_widen {U} {r} {x} w l h =
    let low : Fraction = under w (in_units U r.value) x in
    let high : Fraction = over w (in_units U r.value) x in
    record {
      marked = h.marked;
      unmarked = h.unmarked;
      near = omega (arith, h.near, mul-le-mul_right (low.den * high.den) l);
    }

-- what is promised of a fraction is promised of every equal one
pub promised_respects : (U : ℕ) (w : Direction) (A : ℕ) (r : End) (x y : Fraction)
    → 0 < U → 0 < x.den → 0 < y.den → x ≈ y → Promised U w A r x → Promised U w A r y
promised_respects U down A r x y i p q e h = record {
  marked = λ t. equal_trans (in_units U r.value) x y p (h.marked t) e;
  unmarked = λ t. below_equal (in_units U r.value) x y q e (h.unmarked t);
  near = equal_below x (plus_units U A (in_units U r.value)) y q e h.near;
}
promised_respects U up A r x y i p q e h = record {
  marked = λ t. equal_trans (in_units U r.value) x y p (h.marked t) e;
  unmarked = λ t. equal_below x (in_units U r.value) y q e (h.unmarked t);
  near = below_equal (in_units U r.value) (plus_units U A x) (plus_units U A y)
      (mul-pos q i) (plus_units_equal U A x y e) h.near;
}
