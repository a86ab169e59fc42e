-- A step's product over U, rounded. With U − 1 added before the division it is the least number that, times U, reaches
-- the product, which is the quotient with 1 more for a remainder.
use Prim.Native.Nat.{ℕ, suc, ◌+◌, ◌-◌, ◌*◌, ◌/◌, ◌%◌, ◌≤◌, ◌<◌}
use native.Mathlib.Nat.{div-add-mod', mod-lt, mul-le-mul_right, lt_of_not-le, not-le_of_lt}
use native.Mathlib.Omega.{arith}
use mathlib.Core.Path.{◌≡◌, refl, sym, ◌∙◌}
use lib.Dec.{eqb}
use Rattle.theory.specs.Rounding.{Direction, down, up, IsRounded, rounded, nothing_dropped, LeastReaching, rescaled}
use Rattle.theory.proofs.Outward.{outward_mark}
use Rattle.theory.proofs.RoundingMeaning.{rounded_outward, rounded_unique, rounded_at_most}

-- the quotient of a product with U − 1 more reaches the product, by less than U
raised_quotient : (U a : ℕ) → 0 < U → let q : ℕ = (a + U - 1) / U in (a ≤ q * U) × (q * U < a + U)
raised_quotient U a p =
    let whole : (a + U - 1) / U * U + (a + U - 1) % U ≡ a + U - 1 = div-add-mod' (a + U - 1) U in
    (omega (arith, whole, mod-lt (a + U - 1) p), omega (arith, whole))

-- rounded up, it is the least number that reaches the product
pub rescaled_up_is_least : (U a : ℕ) → 0 < U → LeastReaching U a (rescaled U up a)
unfolding rescaled
rescaled_up_is_least U a p = record {
  reaches = (raised_quotient U a p).0;
  nothing_less = λ u l. omega (arith, (raised_quotient U a p).1, mul-le-mul_right U l);
}

-- the least number that reaches a product is what rounding it up means
least_is_rounded : (U a r : ℕ) → LeastReaching U a r → IsRounded up a U r
least_is_rounded U a r h = record {
  safe = h.reaches;
  nearest = λ u s.
      let l : r < suc u = lt_of_not-le (λ l. not-le_of_lt (h.nothing_less u l) s) in omega (arith, l);
}

-- both forms of rounding are equal
pub rescaled_is_rounded : (U : ℕ) (w : Direction) (a : ℕ) → 0 < U → rescaled U w a ≡ rounded w a U
unfolding rescaled rounded
rescaled_is_rounded U down a p = refl
rescaled_is_rounded U up a p =
    rounded_unique up a U _ p (least_is_rounded U a _ (rescaled_up_is_least U a p))

-- no other number is the least
pub least_is_rescaled_up : (U a r : ℕ) → 0 < U → LeastReaching U a r → r ≡ rescaled U up a
least_is_rescaled_up U a r p h =
    rounded_unique up a U r p (least_is_rounded U a r h) ∙ sym (rescaled_is_rounded U up a p)

-- what is at most a whole number of units is answered by at most that number
pub rescaled_at_most : (U : ℕ) (w : Direction) (a k : ℕ) → 0 < U → a ≤ k * U → rescaled U w a ≤ k
rescaled_at_most U w a k p l = rw (rescaled_is_rounded U w a p) (rounded_at_most w a U k p l)

-- nothing is dropped exactly where the answer times U is the product
pub whole_drops_nothing : (U : ℕ) (w : Direction) (a : ℕ) → 0 < U
    → eqb (rescaled U w a * U) a ≡ nothing_dropped a U
whole_drops_nothing U w a p = rw (rescaled_is_rounded U w a p) (outward_mark (rounded_outward w a U p))
