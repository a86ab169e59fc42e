-- Sums of v, over the numbers of a list and over the numbers below n.
use Prim.Native.Nat.{ℕ, zero, suc, ◌+◌, ◌≤◌, ◌<◌}
use mathlib.Core.Path.{◌≡◌, refl}
use mathlib.Core.Logic.{◌≢◌}
use mathlib.Core.Bool.{Bool, true, false, cond}
use mathlib.Core.List.{List, [], ◌∷◌, ◌++◌}
use native.Mathlib.Nat.{zero-add, add-zero, add_assoc}
use native.Mathlib.Omega.{arith}
use lib.Dec.{eqb}
use lib.ListN.{length}
use borrow.Author.Tests.{eqb-true, eqb-false, ne_eqb}

-- the sum of v over a list
abbrev pub summed : (ℕ → ℕ) → List ℕ → ℕ
summed v [] = 0
summed v (e ∷ es) = v e + summed v es

-- the sum over a joined list is the sum of the sums
pub summed_append : (v : ℕ → ℕ) (xs ys : List ℕ) → summed v (xs ++ ys) ≡ summed v xs + summed v ys
summed_append v [] ys = rw zero-add
summed_append v (x ∷ xs) ys = rw (summed_append v xs ys, add_assoc)

-- with 1 for every number a list sums up to its length
pub summed_ones : (es : List ℕ) → summed (λ e. 1) es ≡ length es
summed_ones [] = refl
summed_ones (e ∷ es) = omega (arith, summed_ones es)

-- the sum of v over the numbers below n
abbrev pub sum : ℕ → (ℕ → ℕ) → ℕ
sum zero v = 0
sum (suc n) v = sum n v + v n

-- with 1 for every number they sum up to n
pub sum_ones : (n : ℕ) → sum n (λ i. 1) ≡ n
sum_ones zero = refl
sum_ones (suc n) = omega (arith, sum_ones n)

-- sums agree where their terms do
pub sum_agree : (v u : ℕ → ℕ) (n : ℕ) → ((i : ℕ) → i < n → v i ≡ u i) → sum n v ≡ sum n u
sum_agree v u zero h = refl
sum_agree v u (suc n) h =
    omega (arith, sum_agree v u n (λ i l. h i (omega arith)), h n (omega arith))

-- a sum of zeros is 0
pub sum_zeros : (v : ℕ → ℕ) (n : ℕ) → ((i : ℕ) → i < n → v i ≡ 0) → sum n v ≡ 0
sum_zeros v zero h = refl
sum_zeros v (suc n) h = omega (arith, sum_zeros v n (λ i l. h i (omega arith)), h n (omega arith))

-- v with 0 at k
abbrev pub without : ℕ → (ℕ → ℕ) → ℕ → ℕ
without k v i = cond (eqb i k) 0 (v i)

-- v is left as it is at every other number
pub without_elsewhere : (k : ℕ) (v : ℕ → ℕ) (i : ℕ) → i ≢ k → without k v i ≡ v i
without_elsewhere k v i h = rw (ne_eqb i k h)

-- to take out a number at or above n changes no sum below n
sum_without_above : (k : ℕ) (v : ℕ → ℕ) (n : ℕ) → n ≤ k → sum n (without k v) ≡ sum n v
sum_without_above k v n h = sum_agree (without k v) v n (λ i l. without_elsewhere k v i (omega arith))

-- one term of a sum, and the rest
pub sum_without : (k : ℕ) (v : ℕ → ℕ) (n : ℕ) → k < n → sum n (without k v) + v k ≡ sum n v
sum_without k v zero h = absurd (omega arith)
sum_without k v (suc n) h = go (eqb n k) refl (sum_without k v n)
  where
    go : (b : Bool) → eqb n k ≡ b → (k < n → sum n (without k v) + v k ≡ sum n v) →
        sum n (without k v) + cond b 0 (v n) + v k ≡ sum n v + v n
    go true q ih = rw (add-zero, ← eqb-true n k q, sum_without_above n v n (omega arith))
    go false q ih = omega (arith, ih (omega (arith, eqb-false n k q)))

-- a term is at most the sum
pub term_at_most_sum : (v : ℕ → ℕ) (n k : ℕ) → k < n → v k ≤ sum n v
term_at_most_sum v n k h = omega (arith, sum_without k v n h)

-- two terms are together at most the sum
pub two_terms_at_most_sum : (v : ℕ → ℕ) (n i k : ℕ) → i < n → k < n → i ≢ k → v i + v k ≤ sum n v
two_terms_at_most_sum v n i k l m d =
    omega (arith, sum_without k v n m, without_elsewhere k v i d, term_at_most_sum (without k v) n i l)

-- a sum whose other terms are 0 is its one term
pub sum_one_term : (v : ℕ → ℕ) (n k : ℕ) → k < n → ((i : ℕ) → i < n → i ≢ k → v i ≡ 0) → sum n v ≡ v k
sum_one_term v n k l h = omega (arith, sum_without k v n l, sum_zeros (without k v) n rest)
  where
    rest : (i : ℕ) → i < n → without k v i ≡ 0
    rest i m = go (eqb i k) refl
      where
        go : (b : Bool) → eqb i k ≡ b → cond b 0 (v i) ≡ 0
        go true q = refl
        go false q = h i m (eqb-false i k q)
