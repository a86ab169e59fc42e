-- The products of two pairs of numbers with gaps have a gap, and the allowances add up.
use Prim.Native.Nat.{ℕ, zero, suc, ◌+◌, ◌*◌, ◌≤◌, ◌<◌}
use native.Mathlib.Nat.{mul-le-mul, mul-le-mul_left, mul-le-mul_right, mul-lt-mul_of_pos_left, mul-lt-mul_of_pos_right}
use native.Mathlib.Nat.{mul-pos, zero-mul}
use native.Mathlib.Omega.{arith}
use mathlib.Core.Path.{◌≡◌, ap₂}
use mathlib.Core.Bool.{Bool, not, ◌&&◌, ◌||◌}
use lib.Dec.{T, eqb, eqb→eq}
use Rattle.theory.proofs.Missing.{both_of_and, either_of_not_and, either_of_or, both_of_not_or}
use Rattle.theory.proofs.Missing.{either_positive, positive_of_not_zero}
use Rattle.theory.proofs.Gap.{Gap}

-- the product of two upper numbers lies near that of the lower ones: a, b bound the gaps and s, t the numbers
product_near : (l a h k b j s t : ℕ)
    → h ≤ l + a → j ≤ k + b → l ≤ s → j ≤ t → h * j ≤ l * k + (a * t + s * b)
product_near l a h k b j s t p q u v = omega (
  arith,
  mul-le-mul_right j p,
  mul-le-mul_left l q,
  mul-le-mul_left a v,
  mul-le-mul_right b u,
)

-- strictly so where the first gap is
product_near_first : (l a h k b j s t : ℕ)
    → h < l + a → 0 < a → 0 < t → j ≤ k + b → l ≤ s → j ≤ t → h * j < l * k + (a * t + s * b)
product_near_first l a h k b zero s t p z y q u v = omega (arith, mul-pos z y)
product_near_first l a h k b (suc j) s t p z y q u v =
    let c : 0 < suc j = omega arith in
    omega (arith, mul-lt-mul_of_pos_right p c, mul-le-mul_left l q, mul-le-mul_left a v, mul-le-mul_right b u)

-- strictly so where the second gap is
product_near_second : (l a h k b j s t : ℕ)
    → h ≤ l + a → j < k + b → 0 < b → 0 < s → l ≤ s → j ≤ t → h * j < l * k + (a * t + s * b)
product_near_second zero a h k b j s t p q z y u v = omega (arith, mul-pos y z, mul-le-mul p v)
product_near_second (suc l) a h k b j s t p q z y u v =
    let c : 0 < suc l = omega arith in
    omega (
      arith,
      mul-le-mul_right j p,
      mul-lt-mul_of_pos_left q c,
      mul-le-mul_left a v,
      mul-le-mul_right b u,
    )

-- the product of the upper numbers is above that of the lower ones where one factor is and the other upper one is not 0
product_above : (l h k j : ℕ) → l < h → k ≤ j → 0 < j → l * k < h * j
product_above l h k j p q z = omega (arith, mul-le-mul_left l q, mul-lt-mul_of_pos_right p z)

-- an upper number of 0 makes both products 0
product_zero : (l h k j : ℕ) → l ≤ h → h ≡ 0 → l * k ≡ h * j
product_zero l h k j p z = let y : l ≡ 0 = omega arith in simp (y, z, zero-mul)

-- two products are equal where both gaps are marked or an upper number is 0
product_marked : {A d l h B e k j : ℕ} {m n : Bool} → Gap A d m l h → Gap B e n k j
    → T (m && n || (eqb h 0 || eqb j 0)) → l * k ≡ h * j
product_marked {l} {h} {k} {j} {m} {n} g f = either_of_or (m && n) (eqb h 0 || eqb j 0)
    (λ t. let (a, b) = both_of_and m n t in ap₂ ◌*◌ (g.marked a) (f.marked b))
    (either_of_or (eqb h 0) (eqb j 0)
    (λ t. product_zero l h k j g.order (eqb→eq h 0 t))
    (λ t. omega (arith, product_zero k j l h f.order (eqb→eq j 0 t))))

-- and apart otherwise
product_unmarked : {A d l h B e k j : ℕ} {m n : Bool} → Gap A d m l h → Gap B e n k j
    → T (not (m && n || (eqb h 0 || eqb j 0))) → l * k < h * j
product_unmarked {l} {h} {k} {j} {m} {n} g f t =
    let (x, y) = both_of_not_or (m && n) (eqb h 0 || eqb j 0) t in
    let (v, w) = both_of_not_or (eqb h 0) (eqb j 0) y in
    either_of_not_and m n
    (λ a. product_above l h k j (g.unmarked a) f.order (positive_of_not_zero j w))
    (λ b. omega (arith, product_above k j l h (f.unmarked b) g.order (positive_of_not_zero h v)))
    x

-- Gaps between numbers of at most U × d and U × e multiply, and their allowances add up. The products are equal where
-- both pairs are, or where an upper number is 0.
pub gap_product : {A d l h B e k j : ℕ} {m n : Bool} (U : ℕ) → 0 < U → 0 < d → 0 < e → l ≤ U * d → j ≤ U * e
    → Gap A d m l h → Gap B e n k j
    → Gap (A + B) (U * (d * e)) (m && n || (eqb h 0 || eqb j 0)) (l * k) (h * j)
gap_product {A} {d} {l} {h} {B} {e} {k} {j} {m} {n} U u p q s t g f =
    let sp : 0 < U * d = mul-pos u p in
    let tp : 0 < U * e = mul-pos u q in
    record {
      order = mul-le-mul g.order f.order;
      near = omega (arith, product_near l (A * d) h k (B * e) j (U * d) (U * e) g.near f.near s t);
      strictly_near = either_positive A B
          (λ a. omega (
            arith,
            product_near_first l (A * d) h k (B * e) j (U * d) (U * e)
                (g.strictly_near a) (mul-pos a p) tp f.near s t,
          ))
          (λ b. omega (
            arith,
            product_near_second l (A * d) h k (B * e) j (U * d) (U * e)
                g.near (f.strictly_near b) (mul-pos b q) sp s t,
          ));
      marked = product_marked g f;
      unmarked = product_unmarked g f;
    }
