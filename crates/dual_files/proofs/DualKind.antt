-- The kind of the dual node.
use Prim.Native.Nat.{ℕ}
use mathlib.Core.Path.{◌≡◌, refl, ap, ◌∙◌}
use native.Mathlib.Decide.{ℕ_discrete}
use borrow.Author.Tests.{ne_eqb}
use Rattle.dual_files.specs.Tree.{exchanged}

pub and_exchanged : (k : ℕ) → k ≡ 1 → exchanged k ≡ 2
and_exchanged k e = rw e refl

pub or_exchanged : (k : ℕ) → k ≡ 2 → exchanged k ≡ 1
or_exchanged k e = rw e refl

-- any other stays
pub other_exchanged : (k : ℕ) → (k ≡ 1 → ⊥) → (k ≡ 2 → ⊥) → exchanged k ≡ k
other_exchanged k a b = rw (ne_eqb k 1 a, ne_eqb k 2 b) refl

-- exchanged twice, a kind is as it was
pub exchanged_twice : (k : ℕ) → exchanged (exchanged k) ≡ k
exchanged_twice k = go (ℕ_discrete k 1) (ℕ_discrete k 2)
  where
    go : Dec (k ≡ 1) → Dec (k ≡ 2) → exchanged (exchanged k) ≡ k
    go (yes a) b = rw a refl
    go (no a) (yes b) = rw b refl
    go (no a) (no b) = ap exchanged (other_exchanged k a b) ∙ other_exchanged k a b
