-- The set that a number stands for: of 0, of a power of two, and of two numbers joined bit by bit.
use Rattle.std.proofs.Common.{ℕ, suc, zero, ◌^◌, ◌<◌, ◌≡◌, max, ◌||◌, eqb, refl, eq-eqb, ne_eqb, arith}
use Rattle.std.proofs.lemmas.Nat.Bits.{bit_at-lt, bit_at-pow_other, bit_at-pow_same, bit_at-zero, bit_at_or}
use Rattle.std.specs.Int.{bit_at}
use Rattle.std.specs.Int.Bits.{bit_or}
use native.Mathlib.Decide.{ℕ_discrete}
use Rattle.theory.specs.Unreliability.{empty_set, with_event}
use Rattle.theory.specs.MinimalCutSets.{SameSet}
use Rattle.theory.specs.CutSetFamily.{union}
use Rattle.node_sets.specs.Numbers.{members}

-- 0 stands for the empty set
pub members_none : SameSet (members 0) empty_set
unfolding members
members_none e = rw (bit_at-zero e)

-- a power of two stands for one event
pub members_one : (event : ℕ) → SameSet (members (2 ^ event)) (with_event event empty_set)
unfolding members
members_one event e = go (ℕ_discrete e event)
  where
    go : Dec (e ≡ event) → eqb (bit_at (2 ^ event) e) 1 ≡ eqb event e || empty_set e
    go (yes same) = rw (same, bit_at-pow_same event, eq-eqb event event refl)
    go (no other) = rw (bit_at-pow_other event e other, ne_eqb event e (λ q. other (omega arith)))

-- the larger of two bits is 1 where one of them is
bit_join : (a b : ℕ) → a < 2 → b < 2 → eqb (max a b) 1 ≡ eqb a 1 || eqb b 1
bit_join zero zero h k = refl
bit_join zero (suc zero) h k = refl
bit_join (suc zero) zero h k = refl
bit_join (suc zero) (suc zero) h k = refl
bit_join zero (suc (suc b)) h k = absurd (omega arith)
bit_join (suc zero) (suc (suc b)) h k = absurd (omega arith)
bit_join (suc (suc a)) b h k = absurd (omega arith)

-- two numbers joined bit by bit stand for the union
pub members_join : (x y : ℕ) → SameSet (members (bit_or x y)) (union (members x) (members y))
unfolding members
members_join x y e = rw (bit_at_or x y e) (bit_join (bit_at x e) (bit_at y e) (bit_at-lt x e) (bit_at-lt y e))
