-- Numbers below m with different numbers below n: m is at most n.
use Prim.Native.Nat.{ℕ, zero, suc, ◌≤◌, ◌<◌}
use mathlib.Core.Path.{◌≡◌, refl, sym, ◌∙◌}
use mathlib.Core.Logic.{◌≢◌}
use mathlib.Core.Bool.{Bool, true, false, cond}
use native.Mathlib.Omega.{arith}
use lib.Arith.{lt_of_le-ne}
use lib.Dec.{eqb}
use borrow.Author.Tests.{eqb-true, eqb-false}

-- f takes the numbers below m to numbers below n, different ones to different ones
pub record Into (f : ℕ → ℕ) (m n : ℕ) : Type 0 where
  pub below : (i : ℕ) → i < m → f i < n
  pub apart : (i j : ℕ) → i < m → j < m → f i ≡ f j → i ≡ j

-- f with v in the place of n
abbrev replaced : (ℕ → ℕ) → ℕ → ℕ → ℕ → ℕ
replaced f n v i = cond (eqb (f i) n) v (f i)

module _ (f : ℕ → ℕ) (m n : ℕ) (into : Into f (suc m) (suc n)) where
  -- what only m itself is taken to is free to take the place of n
  fewer : Into (replaced f n (f m)) m n
  fewer = record { below = λ i l. below i l (eqb (f i) n) refl; apart = λ i j l k. apart i j l k }
    where
      other : (i : ℕ) → i < m → f m ≢ f i
      other i l e = omega (arith, into.apart m i (omega arith) (omega arith) e)

      below : (i : ℕ) → i < m → (b : Bool) → eqb (f i) n ≡ b → cond b (f m) (f i) < n
      below i l true q =
          let at : f i ≡ n = eqb-true (f i) n q in
          lt_of_le-ne (omega (arith, into.below m (omega arith))) (λ e. other i l (e ∙ sym at))
      below i l false q = lt_of_le-ne (omega (arith, into.below i (omega arith))) (eqb-false (f i) n q)

      apart : (i j : ℕ) → i < m → j < m → replaced f n (f m) i ≡ replaced f n (f m) j → i ≡ j
      apart i j l k e = go (eqb (f i) n) refl (eqb (f j) n) refl e
        where
          go : (b : Bool) → eqb (f i) n ≡ b → (c : Bool) → eqb (f j) n ≡ c → cond b (f m) (f i) ≡ cond c (f m) (f j)
              → i ≡ j
          go true p true q h =
              into.apart i j (omega arith) (omega arith) (eqb-true (f i) n p ∙ sym (eqb-true (f j) n q))
          go true p false q h = absurd (other j k h)
          go false p true q h = absurd (other i l (sym h))
          go false p false q h = into.apart i j (omega arith) (omega arith) h

-- so m is at most n
pub at_most : (n m : ℕ) (f : ℕ → ℕ) → Into f m n → m ≤ n
at_most n zero f into = omega arith
at_most zero (suc m) f into = absurd (omega (arith, into.below 0 (omega arith)))
at_most (suc n) (suc m) f into = omega (arith, at_most n m (replaced f n (f m)) (fewer f m n into))
