-- Where no two links name the same number, a sum over the numbers below n is the sum over the links and the sum over
-- what no link names.
use Prim.Native.Nat.{ℕ, zero, suc, ◌+◌, ◌<◌}
use mathlib.Core.Path.{◌≡◌, refl, sym, ◌∙◌}
use mathlib.Core.Logic.{◌≢◌, ◌⊎◌, inl, inr}
use mathlib.Core.Bool.{Bool, true, false, cond}
use native.Mathlib.Nat.{add-zero, eq-or-lt_of_le, le_of_suc-le-suc}
use native.Mathlib.Omega.{arith}
use lib.Dec.{eqb}
use borrow.Author.Tests.{eqb-true, eqb-false}
use Rattle.theory.proofs.Sums.{sum, without, without_elsewhere, sum_without}

-- v with 0 at every number that one of the first m links names
abbrev pub not_linked : (ℕ → ℕ) → ℕ → (ℕ → ℕ) → ℕ → ℕ
not_linked link zero v i = v i
not_linked link (suc m) v i = without (link m) (not_linked link m v) i

-- one of the first m links names i
abbrev pub Linked : (ℕ → ℕ) → ℕ → ℕ → Type 0
Linked link m i = (j : ℕ) × (j < m) × (link j ≡ i)

-- none of the first m links names i
abbrev pub NotLinked : (ℕ → ℕ) → ℕ → ℕ → Type 0
NotLinked link m i = (j : ℕ) → j < m → link j ≢ i

-- whether a link names i can be decided
pub linked_or_not : (link : ℕ → ℕ) (m i : ℕ) → Linked link m i ⊎ NotLinked link m i
linked_or_not link zero i = inr (λ j l. absurd (omega arith))
linked_or_not link (suc m) i = go (eqb (link m) i) refl (linked_or_not link m i)
  where
    go : (b : Bool) → eqb (link m) i ≡ b → Linked link m i ⊎ NotLinked link m i →
        Linked link (suc m) i ⊎ NotLinked link (suc m) i
    go true q h = inl (m, (omega arith), eqb-true (link m) i q)
    go false q (inl h) = inl (h.0, (omega arith), h.2)
    go false q (inr h) = inr (λ j l. last j (eq-or-lt_of_le (le_of_suc-le-suc l)))
      where
        last : (j : ℕ) → (j ≡ m) ⊎ (j < m) → link j ≢ i
        last j (inl p) e = eqb-false (link m) i q (rw p at e)
        last j (inr l) e = h j l e

-- v is left as it is at a number that no link names
pub not_linked_elsewhere : (link : ℕ → ℕ) (m : ℕ) (v : ℕ → ℕ) (i : ℕ) → NotLinked link m i →
    not_linked link m v i ≡ v i
not_linked_elsewhere link zero v i h = refl
not_linked_elsewhere link (suc m) v i h =
    without_elsewhere (link m) (not_linked link m v) i (λ e. h m (omega arith) (sym e)) ∙
    not_linked_elsewhere link m v i (λ j l. h j (omega arith))

-- and is 0 at a number that a link names
pub not_linked_at : (link : ℕ → ℕ) (m : ℕ) (v : ℕ → ℕ) (i : ℕ) → Linked link m i → not_linked link m v i ≡ 0
not_linked_at link zero v i h = absurd (omega arith)
not_linked_at link (suc m) v i h = go (eqb i (link m)) refl (not_linked_at link m v i)
  where
    go : (b : Bool) → eqb i (link m) ≡ b → (Linked link m i → not_linked link m v i ≡ 0) →
        cond b 0 (not_linked link m v i) ≡ 0
    go true q ih = refl
    go false q ih = ih (h.0, before (eq-or-lt_of_le (le_of_suc-le-suc h.1)), h.2)
      where
        before : (h.0 ≡ m) ⊎ (h.0 < m) → h.0 < m
        before (inl p) = absurd (eqb-false i (link m) q (rw p at (sym h.2)))
        before (inr l) = l

-- the sum over what is not linked, and the sum over the links, make the whole sum
pub sum_linked : (link : ℕ → ℕ) (m n : ℕ) (v : ℕ → ℕ) → ((i j : ℕ) → i < j → j < m → link i ≢ link j) →
    ((j : ℕ) → j < m → link j < n) → sum n (not_linked link m v) + sum m (λ j. v (link j)) ≡ sum n v
sum_linked link zero n v once inside = add-zero (sum n v)
sum_linked link (suc m) n v once inside =
    let whole : sum n (not_linked link m v) + sum m (λ j. v (link j)) ≡ sum n v =
    sum_linked link m n v (λ i j l k. once i j l (omega arith)) (λ j l. inside j (omega arith)) in
    omega (
      arith,
      whole,
      sum_without (link m) (not_linked link m v) n (inside m (omega arith)),
      not_linked_elsewhere link m v (link m) (λ j l. once j m l (omega arith)),
    )
