-- The gap between a rounded end and the exact fraction that it stands in for, by each definition that builds an end: no
-- other file opens `start`, `step`, `end_complement` or `cut_end`.
use Prim.Native.Nat.{ℕ, suc, ◌+◌, ◌-◌, ◌*◌, ◌%◌, ◌≤◌, ◌<◌}
use native.Mathlib.Nat.{le_antisymm, lt_of_mul-lt-mul_right}
use native.Mathlib.Nat.{mul-le-mul, mul-le-mul_right, mul-pos, zero-mul, mul-zero, mul_comm, add_comm}
use native.Mathlib.Omega.{arith}
use mathlib.Core.Path.{◌≡◌, refl, ap, ap₂, sym, ◌∙◌}
use mathlib.Core.Bool.{Bool, true, false, ◌&&◌, ◌||◌}
use lib.Dec.{T, eqb, eqb→eq}
use borrow.Author.Tests.{ne_eqb}
use Rattle.theory.specs.Fraction.{Fraction, Probability, one, ◌⊗◌, complement}
use Rattle.theory.specs.Rounding.{Direction, down, up, opposite, carry, rounded, nothing_dropped, rescaled}
use Rattle.theory.specs.Rounding.{End, start, end_complement, true_zero, step, cut_end}
use Rattle.theory.proofs.Missing.{sub_mul, eqb_zero_times, either_of_or, both_of_and}
use Rattle.theory.proofs.Outward.{Outward, outward_mark, outward_respects, outward_widen, outward_join}
use Rattle.theory.proofs.Outward.{outward_scale, outward_cancel, outward_complement, outward_product}
use Rattle.theory.proofs.FractionEqual.{one_times}
use Rattle.theory.proofs.BottomUpProbability.{product_probability}
use Rattle.theory.proofs.RoundingMeaning.{rounded_outward, rounded_whole, rounded_at_most, carry_at_most_one}
use Rattle.theory.proofs.RoundingMeaning.{carry_whole, nothing_dropped_zero}
use Rattle.theory.proofs.Rescaled.{rescaled_is_rounded, rescaled_at_most}

-- the end r, of which U make 1, stands in for x, less than A units off in the direction w where A is above 0
pub record EndGap (U : ℕ) (w : Direction) (A : ℕ) (r : End) (x : Fraction) : Type 0 where
  pub outward : Outward w A x.den r.exact (r.value * x.den) (x.num * U)
  pub bounded : r.value ≤ U

-- the allowance and the fraction may be written otherwise
pub end_gap_respects : {U A B : ℕ} {w : Direction} {r : End} {x y : Fraction}
    → A ≡ B → x ≡ y → EndGap U w A r x → EndGap U w B r y
end_gap_respects a e g = rw (← a, ← e) g

-- the allowance may grow
pub end_gap_widen : {U A B : ℕ} {w : Direction} {r : End} {x : Fraction}
    → A ≤ B → Probability x → EndGap U w A r x → EndGap U w B r x
end_gap_widen l p g = record { outward = outward_widen l p.positive g.outward; bounded = g.bounded }

-- a number of units in a probability's denominator is at most the denominator times U
units_at_most : (U : ℕ) {f : Fraction} → Probability f → f.num * U ≤ U * f.den
units_at_most U p = omega (arith, mul-le-mul_right U p.at_most_one)

-- a basic event's end is off by what one rounding drops
pub cut_end_gap_carry : (U : ℕ) (w : Direction) (f : Fraction) → Probability f
    → EndGap U w (carry (f.num * U % f.den)) (cut_end U w f) f
unfolding cut_end
cut_end_gap_carry U w f p = record {
  outward = rounded_outward w (f.num * U) f.den p.positive;
  bounded = rounded_at_most w (f.num * U) f.den U p.positive (units_at_most U p);
}

-- that is less than 1 unit
pub cut_end_gap : (U : ℕ) (w : Direction) (f : Fraction) → Probability f → EndGap U w 1 (cut_end U w f) f
cut_end_gap U w f p = end_gap_widen (carry_at_most_one (f.num * U % f.den)) p (cut_end_gap_carry U w f p)

-- the product of two ends stands in for the product of what they stand in for
product_outward : {U A B : ℕ} {w : Direction} {r x : End} {f g : Fraction}
    → 0 < U → Probability f → Probability g → EndGap U w A r f → EndGap U w B x g
    → let mark : Bool = r.exact && x.exact || (true_zero r || true_zero x) in
    Outward w (A + B) (U * (f.den * g.den)) mark (f.den * g.den * (r.value * x.value)) (f.num * U * (g.num * U))
unfolding true_zero
product_outward {U} {r} {x} {f} {g} i p q k l =
    let zero_r : eqb (r.value * f.den) 0 ≡ eqb r.value 0 = eqb_zero_times r.value f.den p.positive in
    let zero_x : eqb (x.value * g.den) 0 ≡ eqb x.value 0 = eqb_zero_times x.value g.den q.positive in
    let within_r : r.value * f.den ≤ U * f.den = mul-le-mul_right f.den k.bounded in
    let within_x : x.value * g.den ≤ U * g.den = mul-le-mul_right g.den l.bounded in
    outward_respects refl refl
    (ap₂ (λ a b. r.exact && x.exact || (r.exact && a || x.exact && b)) zero_r zero_x) (omega arith) refl
    (outward_product U i p.positive q.positive within_r (units_at_most U p) within_x (units_at_most U q)
    k.outward l.outward)

-- and so does their rounded product
rounded_product_outward : {U A B : ℕ} {w : Direction} {r x : End} {f g : Fraction}
    → 0 < U → Probability f → Probability g → EndGap U w A r f → EndGap U w B x g
    → let a : ℕ = r.value * x.value in
    let mark : Bool = nothing_dropped a U && (r.exact && x.exact || (true_zero r || true_zero x)) in
    Outward w (A + B + carry (a % U)) (f.den * g.den) mark (rounded w a U * (f.den * g.den)) (f.num * g.num * U)
rounded_product_outward {U} {A} {B} {w} {r} {x} {f} {g} i p q k l =
    let a : ℕ = r.value * x.value in
    let d : ℕ = f.den * g.den in
    let rounding : Outward w (carry (a % U)) (U * d) (nothing_dropped a U) (d * (rounded w a U * U)) (d * a)
    = outward_respects refl (mul_comm d U) refl refl refl
    (outward_scale d (mul-pos p.positive q.positive) (rounded_outward w a U i)) in
    outward_cancel U i
    (outward_respects (add_comm (carry (a % U)) (A + B)) refl refl (omega arith) (omega arith)
    (outward_join rounding (product_outward i p q k l)))

-- an end that is marked and 0 is 0
true_zero_value : (r : End) → T (true_zero r) → r.value ≡ 0
unfolding true_zero
true_zero_value r t = eqb→eq r.value 0 (both_of_and r.exact (eqb r.value 0) t).1

-- its products drop nothing
zero_drops_nothing : (U : ℕ) (r x : End) → T (true_zero r || true_zero x) → T (nothing_dropped (r.value * x.value) U)
zero_drops_nothing U r x = either_of_or (true_zero r) (true_zero x)
    (λ t. nothing_dropped_zero _ U (rw (true_zero_value r t) (zero-mul x.value)))
    (λ t. nothing_dropped_zero _ U (rw (true_zero_value x t) (mul-zero r.value)))

-- the mark of a step, written otherwise: nothing is dropped, and both are marked or there is a marked 0
step_mark : (a b k z : Bool) → (T z → T k) → k && (a && b || z) ≡ a && b && k || z
step_mark true true true z h = refl
step_mark true false true z h = refl
step_mark false b true z h = refl
step_mark true true false true h = absurd (h tt)
step_mark true false false true h = absurd (h tt)
step_mark false b false true h = absurd (h tt)
step_mark true true false false h = refl
step_mark true false false false h = refl
step_mark false b false false h = refl

-- a step adds up what its factors are off and what its rounding drops
pub step_gap_carry : {U A B : ℕ} {w : Direction} {r x : End} {f g : Fraction}
    → 0 < U → Probability f → Probability g → EndGap U w A r f → EndGap U w B x g
    → EndGap U w (A + B + carry (r.value * x.value % U)) (step U w r x) (f ⊗ g)
unfolding step
step_gap_carry {U} {w} {r} {x} {f} {g} i p q k l = record {
  outward = outward_respects refl refl
      (step_mark r.exact x.exact (nothing_dropped (r.value * x.value) U) (true_zero r || true_zero x)
      (zero_drops_nothing U r x))
      (ap (λ v. v * (f.den * g.den)) (sym (rescaled_is_rounded U w (r.value * x.value) i))) refl
      (rounded_product_outward i p q k l);
  bounded = rescaled_at_most U w (r.value * x.value) U i (mul-le-mul k.bounded l.bounded);
}

-- a step adds less than 1 unit to what its factors are off
pub step_gap : {U A B : ℕ} {w : Direction} {r x : End} {f g : Fraction}
    → 0 < U → Probability f → Probability g → EndGap U w A r f → EndGap U w B x g
    → EndGap U w (A + B + 1) (step U w r x) (f ⊗ g)
step_gap {U} {r} {x} i p q k l =
    end_gap_widen (omega (arith, carry_at_most_one (r.value * x.value % U))) (product_probability _ _ p q)
    (step_gap_carry i p q k l)

-- the mark of a step from an exact end that is not 0 and drops nothing
mark_from_start : (m z : Bool) → m && true || (false || m && z) ≡ m
mark_from_start true z = refl
mark_from_start false z = refl

-- the first step of a gate answers its factor
pub step_from_start : (U : ℕ) (w : Direction) (x : End) → 0 < U → step U w (start U) x ≡ x
unfolding step start true_zero nothing_dropped
step_from_start U w x p = ap₂ (λ v m. record { value = v; exact = m }) whole mark
  where
    whole : rescaled U w (U * x.value) ≡ x.value
    whole = rw (rescaled_is_rounded U w (U * x.value) p, mul_comm U x.value) (rounded_whole w x.value U p)

    mark : x.exact && eqb (carry (U * x.value % U)) 0 || (eqb U 0 || x.exact && eqb x.value 0) ≡ x.exact
    mark = rw (carry_whole x.value U, ne_eqb U 0 (λ e. omega arith)) (mark_from_start x.exact _)

-- so it is no further off than its factor
pub step_start : {U A : ℕ} {w : Direction} {x : End} {g : Fraction}
    → 0 < U → EndGap U w A x g → EndGap U w A (step U w (start U) x) (one ⊗ g)
step_start {U} {w} {x} {g} i k = rw (step_from_start U w x i, one_times g) k

-- what is missing to 1 stands in for what is missing to 1, in the opposite direction
pub complement_gap : {U A : ℕ} {w : Direction} {r : End} {f : Fraction}
    → Probability f → EndGap U w A r f → EndGap U (opposite w) A (end_complement U r) (complement f)
unfolding end_complement
complement_gap {U} {r} {f} p k = record {
  outward = outward_respects refl refl refl (sym (sub_mul U r.value f.den))
      (ap (λ a. a - f.num * U) (mul_comm U f.den) ∙ sym (sub_mul f.den f.num U))
      (outward_complement (U * f.den) (mul-le-mul_right f.den k.bounded) (units_at_most U p) k.outward);
  bounded = omega arith;
}

-- what is missing to U is at most U
pub complement_at_most : (U : ℕ) (r : End) → (end_complement U r).value ≤ U
unfolding end_complement
complement_at_most U r = omega arith

-- and what is missing to that is the end itself
pub complement_twice : (U : ℕ) (r : End) → r.value ≤ U → end_complement U (end_complement U r) ≡ r
unfolding end_complement
complement_twice U r l = let back : U - (U - r.value) ≡ r.value = omega arith in
    λ i. record { value = back i; exact = r.exact }

-- a step from ends of at most U answers at most U
pub step_at_most : (U : ℕ) (w : Direction) (r x : End) → 0 < U → r.value ≤ U → x.value ≤ U → (step U w r x).value ≤ U
unfolding step
step_at_most U w r x i k l = rescaled_at_most U w (r.value * x.value) U i (mul-le-mul k l)

-- a gate starts at U
pub start_at_most : (U : ℕ) → (start U).value ≤ U
unfolding start
start_at_most U = omega arith

-- a multiple of d less than d above another is none above it
no_multiple_between : (d p q : ℕ) → p * d < q * d + 1 * d → p ≤ q
no_multiple_between d p q l = omega (arith, lt_of_mul-lt-mul_right d {m = p} {n = suc q} (omega (arith, l)))

-- two values on the same side of a number, both less than d off, are equal
same_side : {d : ℕ} {w : Direction} {v u x : ℕ} {m n : Bool} → Outward w 1 d m (v * d) x → Outward w 1 d n (u * d) x
    → v ≡ u
same_side {d} {w = down} {v} {u} g h =
    let g_near = g.gap.strictly_near (omega arith) in
    let h_near = h.gap.strictly_near (omega arith) in
    le_antisymm (no_multiple_between d v u (omega (arith, h_near, g.gap.order)))
    (no_multiple_between d u v (omega (arith, g_near, h.gap.order)))
same_side {d} {w = up} {v} {u} g h =
    let g_near = g.gap.strictly_near (omega arith) in
    let h_near = h.gap.strictly_near (omega arith) in
    le_antisymm (no_multiple_between d v u (omega (arith, g_near, h.gap.order)))
    (no_multiple_between d u v (omega (arith, h_near, g.gap.order)))

-- only one end stands in for a fraction less than 1 unit off in a direction
pub end_gap_unique : {U : ℕ} {w : Direction} {r s : End} {x : Fraction} → EndGap U w 1 r x → EndGap U w 1 s x → r ≡ s
end_gap_unique {U} {r} {s} {x} g h =
    let value : r.value ≡ s.value = same_side g.outward h.outward in
    let mark : r.exact ≡ s.exact =
    sym (outward_mark g.outward) ∙ ap (λ v. eqb (v * x.den) (x.num * U)) value ∙ outward_mark h.outward in
    λ i. record { value = value i; exact = mark i }
