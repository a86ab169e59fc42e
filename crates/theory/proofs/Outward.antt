-- A gap in a direction: v stands in for x, below it or above it. Each law of Gap.antt once for both directions.
use Prim.Native.Nat.{ℕ, ◌+◌, ◌-◌, ◌*◌, ◌≤◌, ◌<◌}
use native.Mathlib.Nat.{add_comm}
use native.Mathlib.Omega.{arith}
use mathlib.Core.Bool.{Bool, true, false, ◌&&◌, ◌||◌, and_comm}
use mathlib.Core.Path.{◌≡◌, sym}
use lib.Dec.{eqb}
use borrow.Author.Tests.{eq-eqb, ne_eqb}
use Rattle.theory.specs.Rounding.{Direction, down, up, opposite}
use Rattle.theory.proofs.Gap.{Gap, gap_widen, gap_join, gap_scale, gap_cancel, gap_complement}
use Rattle.theory.proofs.Gap.{gap_zero_lower, gap_zero_upper}
use Rattle.theory.proofs.GapProduct.{gap_product}

-- of a number and the one that it stands in for, the lower
abbrev pub lower_of : Direction → ℕ → ℕ → ℕ
lower_of down v x = v
lower_of up v x = x

-- and the upper
abbrev pub upper_of : Direction → ℕ → ℕ → ℕ
upper_of down v x = x
upper_of up v x = v

-- v lies on the safe side of x, at most A times d off; the mark says exactly whether they are equal
pub record Outward (w : Direction) (A d : ℕ) (m : Bool) (v x : ℕ) : Type 0 where
  pub gap : Gap A d m (lower_of w v x) (upper_of w v x)

-- all five may be written otherwise
pub outward_respects : {w : Direction} {A d v x B e u y : ℕ} {m n : Bool}
    → A ≡ B → d ≡ e → m ≡ n → v ≡ u → x ≡ y → Outward w A d m v x → Outward w B e n u y
outward_respects a b c d e g = rw (← a, ← b, ← c, ← d, ← e) g

-- the mark is whether they are equal
pub outward_mark : {w : Direction} {A d v x : ℕ} {m : Bool} → Outward w A d m v x → eqb v x ≡ m
outward_mark {w = down} {v} {x} {m = true} g = eq-eqb v x (g.gap.marked tt)
outward_mark {w = down} {v} {x} {m = false} g = ne_eqb v x (λ e. omega (arith, g.gap.unmarked tt))
outward_mark {w = up} {v} {x} {m = true} g = eq-eqb v x (sym (g.gap.marked tt))
outward_mark {w = up} {v} {x} {m = false} g = ne_eqb v x (λ e. omega (arith, g.gap.unmarked tt))

-- the allowance may grow
pub outward_widen : {w : Direction} {A B d v x : ℕ} {m : Bool}
    → A ≤ B → 0 < d → Outward w A d m v x → Outward w B d m v x
outward_widen l p g = record { gap = gap_widen l p g.gap }

-- what stands in for a number stands in for what that one stands in for
pub outward_join : {w : Direction} {A B d v y x : ℕ} {m n : Bool}
    → Outward w A d m v y → Outward w B d n y x → Outward w (A + B) d (m && n) v x
outward_join {w = down} g h = record { gap = gap_join g.gap h.gap }
outward_join {w = up} {A} {B} {m} {n} g h =
    rw (add_comm A B, and_comm m n) (record { gap = gap_join h.gap g.gap })

-- all of it times a factor
pub outward_scale : {w : Direction} {A d v x : ℕ} {m : Bool} (k : ℕ)
    → 0 < k → Outward w A d m v x → Outward w A (k * d) m (k * v) (k * x)
outward_scale {w = down} k p g = record { gap = gap_scale k p g.gap }
outward_scale {w = up} k p g = record { gap = gap_scale k p g.gap }

-- without a factor that all of it has
pub outward_cancel : {w : Direction} {A d v x : ℕ} {m : Bool} (k : ℕ)
    → 0 < k → Outward w A (k * d) m (k * v) (k * x) → Outward w A d m v x
outward_cancel {w = down} k p g = record { gap = gap_cancel k p g.gap }
outward_cancel {w = up} k p g = record { gap = gap_cancel k p g.gap }

-- what is missing to a top lies on the other side
pub outward_complement : {w : Direction} {A d v x : ℕ} {m : Bool} (top : ℕ) → v ≤ top → x ≤ top
    → Outward w A d m v x → Outward (opposite w) A d m (top - v) (top - x)
outward_complement {w = down} top p q g = record { gap = gap_complement top q g.gap }
outward_complement {w = up} top p q g = record { gap = gap_complement top p g.gap }

-- the products of two such pairs, all at most U times d or e: equal where both are, or where one is marked and 0
pub outward_product : {w : Direction} {A d v x B e u y : ℕ} {m n : Bool} (U : ℕ)
    → 0 < U → 0 < d → 0 < e → v ≤ U * d → x ≤ U * d → u ≤ U * e → y ≤ U * e
    → Outward w A d m v x → Outward w B e n u y
    → Outward w (A + B) (U * (d * e)) (m && n || (m && eqb v 0 || n && eqb u 0)) (v * u) (x * y)
outward_product {w = down} {m} {n} U i p q a b c f g h =
    rw (gap_zero_lower m g.gap, gap_zero_lower n h.gap)
    (record { gap = gap_product U i p q a f g.gap h.gap })
outward_product {w = up} {m} {n} U i p q a b c f g h =
    rw (gap_zero_upper m g.gap, gap_zero_upper n h.gap)
    (record { gap = gap_product U i p q b c g.gap h.gap })
