-- A gate's set by its number: the part of its first input, and that of the others.
use Rattle.std.proofs.Common.{ℕ, ◌-◌, ◌/◌, ◌%◌, ◌≤◌, ◌<◌, ◌≡◌, sym, List, ◌∷◌, arith}
use Rattle.std.proofs.Math.Bool.{or_assoc}
use Rattle.std.specs.Int.Bits.{bit_or}
use native.Mathlib.Nat.{div-lt_iff_lt-mul, mul_comm}
use borrow.Author.Tests.{le-ltb}
use Rattle.theory.specs.MinimalCutSets.{Family, SameSet}
use Rattle.theory.specs.CutSetFamily.{alternatives, union, unions}
use Rattle.node_sets.specs.Numbers.{members}
use Rattle.node_sets.proofs.Bits.{members_join}

module _ {fs gs : List Family} {f : Family} (e : fs ≡ f ∷ gs) (r : ℕ) where
  -- OR: a number not below the first input's count is that of a set of a later one
  pub later_alternative : f.count ≤ r → (alternatives fs).set r ≡ (alternatives gs).set (r - f.count)
  later_alternative l = rw (e, le-ltb r f.count l)

  pub later_below : f.count ≤ r → r < (alternatives fs).count → r - f.count < (alternatives gs).count
  later_below l b = omega (arith, rw e at b)

  -- AND: the quotient is the number of a union of the others' sets
  pub quotient_below : 0 < f.count → r < (unions fs).count → r / f.count < (unions gs).count
  quotient_below l b = (div-lt_iff_lt-mul l).1 (rw (mul_comm (unions gs).count f.count) (rw e at b))

  -- AND: with a set of the first input joined to what is joined so far, that union is left
  pub union_next : (set own : ℕ) → SameSet (members own) (f.set (r % f.count))
      → SameSet (union (members set) ((unions fs).set r))
      (union (members (bit_or set own)) ((unions gs).set (r / f.count)))
  union_next set own h y =
      rw (e, ← h y, members_join set own y) (sym (or_assoc (members set y) (members own y) _))
