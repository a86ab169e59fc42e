-- Two numbers at most A times d apart, with the mark that says whether they are equal. Rounding makes such a gap; gaps
-- add up along a chain, are scaled and turned over.
use Prim.Native.Nat.{ℕ, ◌+◌, ◌-◌, ◌*◌, ◌≤◌, ◌<◌}
use native.Mathlib.Nat.{mul-le-mul_left, mul-le-mul_right, mul-lt-mul_of_pos_left, mul-lt-mul_of_pos_right}
use native.Mathlib.Nat.{le_of_mul-le-mul_left, lt_of_mul-lt-mul_left, eq_of_mul-eq-mul_left}
use native.Mathlib.Omega.{arith}
use mathlib.Core.Path.{◌≡◌, refl, ap, sym, ◌∙◌}
use mathlib.Core.Bool.{Bool, true, false, not, ◌&&◌}
use lib.Dec.{T, eqb}
use borrow.Author.Tests.{ne_eqb}
use Rattle.theory.proofs.Missing.{both_of_and, either_of_not_and, either_positive}

-- lo and hi are at most A times d apart; the mark says exactly whether they are equal
pub record Gap (A d : ℕ) (m : Bool) (lo hi : ℕ) : Type 0 where
  pub order : lo ≤ hi
  pub near : hi ≤ lo + A * d
  pub strictly_near : 0 < A → hi < lo + A * d
  pub marked : T m → lo ≡ hi
  pub unmarked : T (not m) → lo < hi

-- a gap may be allowed more
pub gap_widen : {A B d lo hi : ℕ} {m : Bool} → A ≤ B → 0 < d → Gap A d m lo hi → Gap B d m lo hi
gap_widen {A} {B} {d} {lo} {hi} l p g = record {
  order = g.order;
  near = omega (arith, mul-le-mul_right d l);
  strictly_near = λ b. either_positive A (B - A)
      (λ a. omega (arith, g.strictly_near a, mul-le-mul_right d l))
      (λ a. let s : A < B = omega arith in omega (arith, mul-lt-mul_of_pos_right {k = d} s p))
      (omega arith);
  marked = g.marked;
  unmarked = g.unmarked;
}

-- gaps add up along a chain
pub gap_join : {A B d lo mid hi : ℕ} {m n : Bool}
    → Gap A d m lo mid → Gap B d n mid hi → Gap (A + B) d (m && n) lo hi
gap_join {A} {B} {m} {n} g h = record {
  order = omega arith;
  near = omega arith;
  strictly_near = either_positive A B (λ a. omega (arith, g.strictly_near a)) (λ b. omega (arith, h.strictly_near b));
  marked = λ t. let (s, u) = both_of_and m n t in g.marked s ∙ h.marked u;
  unmarked = either_of_not_and m n (λ s. omega (arith, g.unmarked s)) (λ u. omega (arith, h.unmarked u));
}

-- a gap times a factor
pub gap_scale : {A d lo hi : ℕ} {m : Bool} (k : ℕ) → 0 < k → Gap A d m lo hi → Gap A (k * d) m (k * lo) (k * hi)
gap_scale k p g = record {
  order = mul-le-mul_left k g.order;
  near = omega (arith, mul-le-mul_left k g.near);
  strictly_near = λ a. omega (arith, mul-lt-mul_of_pos_left (g.strictly_near a) p);
  marked = λ t. ap (◌*◌ k) (g.marked t);
  unmarked = λ t. mul-lt-mul_of_pos_left (g.unmarked t) p;
}

-- a gap without a factor that all of it has
pub gap_cancel : {A d lo hi : ℕ} {m : Bool} (k : ℕ) → 0 < k → Gap A (k * d) m (k * lo) (k * hi) → Gap A d m lo hi
gap_cancel {A} {d} {lo} {hi} k p g = record {
  order = le_of_mul-le-mul_left g.order p;
  near = le_of_mul-le-mul_left {k = k} (omega (arith, g.near)) p;
  strictly_near = λ a. lt_of_mul-lt-mul_left k (omega (arith, g.strictly_near a));
  marked = λ t. eq_of_mul-eq-mul_left k p lo hi (g.marked t);
  unmarked = λ t. lt_of_mul-lt-mul_left k (g.unmarked t);
}

-- what is missing to a top has the same gap, turned over
pub gap_complement : {A d lo hi : ℕ} {m : Bool} (top : ℕ) → hi ≤ top
    → Gap A d m lo hi → Gap A d m (top - hi) (top - lo)
gap_complement top l g = record {
  order = omega arith;
  near = omega arith;
  strictly_near = λ a. omega (arith, g.strictly_near a);
  marked = λ t. omega (arith, g.marked t);
  unmarked = λ t. omega (arith, g.unmarked t);
}

-- an upper number is 0 just where the mark stands and the lower number is 0
pub gap_zero_lower : {A d l h : ℕ} (m : Bool) → Gap A d m l h → m && eqb l 0 ≡ eqb h 0
gap_zero_lower true g = ap (λ x. eqb x 0) (g.marked tt)
gap_zero_lower {h} false g = sym (ne_eqb h 0 (λ z. omega (arith, g.unmarked tt)))

-- an upper number is 0 just where the mark stands and it is 0
pub gap_zero_upper : {A d l h : ℕ} (m : Bool) → Gap A d m l h → m && eqb h 0 ≡ eqb h 0
gap_zero_upper true g = refl
gap_zero_upper {h} false g = sym (ne_eqb h 0 (λ z. omega (arith, g.unmarked tt)))
