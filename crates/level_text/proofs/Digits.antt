-- A number in decimal: by its tenth, as the library writes it, and how many digits it has.
use Prim.Native.Nat.{ℕ, zero, suc, ◌+◌, ◌*◌, ◌/◌, ◌%◌, ◌^◌, ◌≤◌, ◌<◌}
use native.Mathlib.Nat.{div-lt_self, div-lt_iff_lt-mul, lt_of_lt_of_le, pow-suc}
use native.Mathlib.Omega.{arith}
use mathlib.Core.Path.{◌≡◌, refl, sym, ap, ◌∙◌, subst}
use mathlib.Core.Bool.{Bool, true, false, cond}
use mathlib.Core.List.{List, [], ◌∷◌, ◌++◌}
use lib.ListN.{length, length-append}
use lib.Dec.{ltb, lit<, lit≤}
use borrow.Author.Tests.{lt-ltb, le-ltb, ltb-true, ltb-false}
use Rattle.std.specs.Fmt.{decimal as written}
use Rattle.std.proofs.Common.{rules}
use Rattle.std.proofs.lemmas.Fmt.{decimal_from_appends, length-decimal-le_succ}
use Rattle.level_text.specs.Decimal.{digit, decimal_in, decimal}

-- a tenth is below the number, unless that is 0
pub tenth_below : (n m : ℕ) → 10 ≤ n → n < suc m → n / 10 < m
tenth_below n m l h =
    let positive : 0 < n = omega arith in
    let below : n / 10 < n = div-lt_self positive (lit< tt) in
    omega arith

-- enough steps are as good as more
steps_agree : (s t n : ℕ) → n < s → n < t → decimal_in s n ≡ decimal_in t n
steps_agree zero t n h k = absurd (omega arith)
steps_agree (suc s) zero n h k = absurd (omega arith)
steps_agree (suc s) (suc t) n h k =
    go (ltb n 10) refl (λ l. steps_agree s t (n / 10) (tenth_below n s l h) (tenth_below n t l k))
  where
    go : (b : Bool) → ltb n 10 ≡ b → (10 ≤ n → decimal_in s (n / 10) ≡ decimal_in t (n / 10))
        → cond b (digit n ∷ []) (decimal_in s (n / 10) ++ (digit (n % 10) ∷ []))
        ≡ cond b (digit n ∷ []) (decimal_in t (n / 10) ++ (digit (n % 10) ∷ []))
    go true e f = refl
    go false e f = ap (λ (x : List ℕ). x ++ (digit (n % 10) ∷ [])) (f (ltb-false n 10 e))

-- a number below 10 is its own digit
pub decimal_one : (n : ℕ) → n < 10 → decimal n ≡ digit n ∷ []
unfolding decimal
decimal_one n l =
    ap (λ (b : Bool). cond b (digit n ∷ []) (decimal_in n (n / 10) ++ (digit (n % 10) ∷ []))) (lt-ltb n 10 l)

-- any other is its tenth and its last digit
pub decimal_more : (n : ℕ) → 10 ≤ n → decimal n ≡ decimal (n / 10) ++ (digit (n % 10) ∷ [])
unfolding decimal
decimal_more n l =
    ap (λ (b : Bool). cond b (digit n ∷ []) (decimal_in n (n / 10) ++ (digit (n % 10) ∷ []))) (le-ltb n 10 l)
    ∙ ap (λ (x : List ℕ). x ++ (digit (n % 10) ∷ []))
    (steps_agree n (suc (n / 10)) (n / 10) (tenth_below n n l (omega arith)) (omega arith))

-- what the library writes for a number is that
pub decimal_written : (n : ℕ) → n < 2 ^ 64 → written n ≡ decimal n
unfolding decimal
decimal_written n h = sym (decimal_from_appends decimal_in (search rules) (suc n) n h (omega (arith, length-decimal-le_succ n h)))

-- a number of one digit has length 1
pub length_one : (n : ℕ) → n < 10 → length (decimal n) ≡ 1
length_one n l = ap length (decimal_one n l)

-- any other has one digit more than its tenth
pub length_more : (n : ℕ) → 10 ≤ n → length (decimal n) ≡ length (decimal (n / 10)) + 1
length_more n l = ap length (decimal_more n l) ∙ length-append (decimal (n / 10)) (digit (n % 10) ∷ [])

-- a number below a power of 10 has at most as many digits as the exponent
pub length_below : (k n : ℕ) → 0 < k → n < 10 ^ k → length (decimal n) ≤ k
length_below zero n positive h = absurd (omega arith)
length_below (suc zero) n positive h =
    let small : n < 10 = h in
    omega (arith, length_one n small)
length_below (suc (suc d)) n positive h =
    go (ltb n 10) refl (λ k. length_below (suc d) (n / 10) (omega arith) k)
  where
    go : (b : Bool) → ltb n 10 ≡ b → (n / 10 < 10 ^ suc d → length (decimal (n / 10)) ≤ suc d)
        → length (decimal n) ≤ suc (suc d)
    go true e f = omega (arith, length_one n (ltb-true n 10 e))
    go false e f =
        let scaled : n < 10 ^ suc d * 10 = subst (λ (x : ℕ). n < x) (pow-suc 10 (suc d)) h in
        let tenth : n / 10 < 10 ^ suc d = (div-lt_iff_lt-mul {k = 10} {x = n} {y = 10 ^ suc d} (lit< tt)).1 scaled in
        omega (arith, length_more n (ltb-false n 10 e), f tenth)

-- a 64-bit number has at most 20 digits
pub wide_length : (n : ℕ) → n < 2 ^ 64 → length (decimal n) ≤ 20
wide_length n l = length_below 20 n (lit< tt) (lt_of_lt_of_le l (lit≤ tt))

-- a 32-bit number has at most 10
pub narrow_length : (n : ℕ) → n < 2 ^ 32 → length (decimal n) ≤ 10
narrow_length n l = length_below 10 n (lit< tt) (lt_of_lt_of_le l (lit≤ tt))

-- how long a text with such numbers can be
pub ruleset lengths = (wide_length, narrow_length, length-append)
