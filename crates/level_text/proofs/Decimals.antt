-- A number in decimal means its number: digits alone, which read back are the number, without leading zeros; and it
-- is the only text that does.
use Prim.Native.Nat.{ℕ, zero, suc, ◌+◌, ◌-◌, ◌*◌, ◌/◌, ◌%◌, ◌≤◌, ◌<◌}
use native.Mathlib.Nat.{div-add-mod', mod-lt}
use native.Mathlib.Omega.{arith}
use mathlib.Core.Path.{◌≡◌, refl, sym, ap, ◌∙◌, subst}
use mathlib.Core.Bool.{Bool, true, false}
use mathlib.Core.List.{List, [], ◌∷◌, ◌++◌}
use lib.ListN.{length, length-append}
use lib.Dec.{ltb, lit<}
use borrow.Author.Tests.{ltb-true, ltb-false}
use Rattle.std.proofs.lemmas.List.{get_or_append_left}
use Rattle.level_text.specs.Decimal.{digit, decimal, IsDigit, AllDigits, read_after, read_back, DecimalOf}
use Rattle.level_text.proofs.Digits.{tenth_below, decimal_one, decimal_more}

-- one more digit is a digit more
digits_more : (xs : List ℕ) (d : ℕ) → d < 10 → AllDigits xs → AllDigits (xs ++ (digit d ∷ []))
digits_more [] d l a = ((omega arith, omega arith), tt)
digits_more (x ∷ xs) d l a = (a.0, digits_more xs d l a.1)

-- one more digit says ten times as much, and itself
read_more : (before : ℕ) (xs : List ℕ) (y : ℕ)
    → read_after before (xs ++ (y ∷ [])) ≡ 10 * read_after before xs + (y - 48)
read_more before [] y = refl
read_more before (x ∷ xs) y = read_more (10 * before + (x - 48)) xs y

-- a number of one digit
one_means : (n : ℕ) → n < 10 → DecimalOf n (digit n ∷ [])
one_means n l = record {
  not_empty = omega arith;
  digits = ((omega arith, omega arith), tt);
  says = omega arith;
  no_leading_zero = λ e. (omega arith, refl);
}

-- any other, by its tenth
more_means : (n : ℕ) (tenth : List ℕ) → 10 ≤ n → DecimalOf (n / 10) tenth
    → DecimalOf n (tenth ++ (digit (n % 10) ∷ []))
more_means n tenth l t =
    let whole : n / 10 * 10 + n % 10 ≡ n = div-add-mod' n 10 in
    let last : n % 10 < 10 = mod-lt n (lit< tt) in
    record {
      not_empty = omega (arith, length-append tenth (digit (n % 10) ∷ []), t.not_empty);
      digits = digits_more tenth (n % 10) last t.digits;
      says = read_more 0 tenth (digit (n % 10)) ∙ omega (arith, t.says);
      no_leading_zero = λ e.
          let none = (t.no_leading_zero (sym (get_or_append_left tenth (digit (n % 10) ∷ []) 0 0 t.not_empty) ∙ e)).0 in
          absurd (omega arith);
    }

-- by the steps that are left
means_in : (steps n : ℕ) → n < steps → DecimalOf n (decimal n)
means_in zero n h = absurd (omega arith)
means_in (suc steps) n h = go (ltb n 10) refl (λ l. means_in steps (n / 10) (tenth_below n steps l h))
  where
    go : (b : Bool) → ltb n 10 ≡ b → (10 ≤ n → DecimalOf (n / 10) (decimal (n / 10))) → DecimalOf n (decimal n)
    go true e f = subst (DecimalOf n) (sym (decimal_one n (ltb-true n 10 e))) (one_means n (ltb-true n 10 e))
    go false e f =
        let l : 10 ≤ n = ltb-false n 10 e in
        subst (DecimalOf n) (sym (decimal_more n l)) (more_means n (decimal (n / 10)) l (f l))

-- Every number printed is in decimal without leading zeros.
pub decimal_means : (n : ℕ) → DecimalOf n (decimal n)
decimal_means n = means_in (suc n) n (omega arith)

-- a text with a byte is all but its last byte, and that
last_of : (x : ℕ) (xs : List ℕ) → (ys : List ℕ) × (y : ℕ) × (x ∷ xs ≡ ys ++ (y ∷ []))
last_of x [] = ([], x, refl)
last_of x (z ∷ zs) =
    let parts = last_of z zs in
    (x ∷ parts.0, parts.1, ap (λ (l : List ℕ). x ∷ l) parts.2)

-- its parts are digits where it is
digits_parts : (xs : List ℕ) (y : ℕ) → AllDigits (xs ++ (y ∷ [])) → AllDigits xs × IsDigit y
digits_parts [] y a = (tt, a.0)
digits_parts (x ∷ xs) y a =
    let more = digits_parts xs y a.1 in
    ((a.0, more.0), more.1)

-- digits after a number above 0 say a number above 0
read_positive : (before : ℕ) (xs : List ℕ) → 1 ≤ before → 1 ≤ read_after before xs
read_positive before [] l = l
read_positive before (x ∷ xs) l = read_positive (10 * before + (x - 48)) xs (omega arith)

-- a digit that is not `0` is above it
above_zero : (z : ℕ) → 48 ≤ z → (z ≡ 48 → ⊥) → 48 < z
above_zero z l other = go (ltb 48 z) refl
  where
    go : (b : Bool) → ltb 48 z ≡ b → 48 < z
    go true e = ltb-true 48 z e
    go false e =
        let most : z ≤ 48 = ltb-false 48 z e in
        absurd (other (omega arith))

-- the text of a number by all but its last digit, of which there is at least one
more_only : (n z : ℕ) (zs : List ℕ) (y : ℕ) → DecimalOf n ((z ∷ zs) ++ (y ∷ []))
    → ((m : ℕ) → DecimalOf m (z ∷ zs) → z ∷ zs ≡ decimal m) → (z ∷ zs) ++ (y ∷ []) ≡ decimal n
more_only n z zs y t f =
    let parts = digits_parts (z ∷ zs) y t.digits in
    let m = read_back (z ∷ zs) in
    let scaled : 10 * m + (y - 48) ≡ n = sym (read_more 0 (z ∷ zs) y) ∙ t.says in
    let led : z ≡ 48 → ⊥ = λ e.
    omega (arith, (t.no_leading_zero e).1, length-append zs (y ∷ [])) in
    let first : 48 < z = above_zero z parts.0.0.0 led in
    let positive : 1 ≤ m = read_positive (10 * 0 + (z - 48)) zs (omega arith) in
    let whole : n / 10 * 10 + n % 10 ≡ n = div-add-mod' n 10 in
    let last : n % 10 < 10 = mod-lt n (lit< tt) in
    let tenth : m ≡ n / 10 = omega (arith, parts.1.0, parts.1.1) in
    let digit_is : y ≡ digit (n % 10) = omega (arith, parts.1.0, parts.1.1) in
    let own : z ∷ zs ≡ decimal m =
    f m (record {
      not_empty = omega arith;
      digits = parts.0;
      says = refl;
      no_leading_zero = λ e. absurd (led e);
    }) in
    ap (λ (l : List ℕ). l ++ (y ∷ [])) (own ∙ ap decimal tenth)
    ∙ ap (λ (b : ℕ). decimal (n / 10) ++ (b ∷ [])) digit_is
    ∙ sym (decimal_more n (omega arith))

-- the text of a number that has one digit
one_only : (n y : ℕ) → DecimalOf n (y ∷ []) → y ∷ [] ≡ decimal n
one_only n y t =
    let byte = t.digits.0 in
    let digit_is : y ≡ digit n = omega (arith, t.says, byte.0, byte.1) in
    ap (λ (b : ℕ). b ∷ []) digit_is ∙ sym (decimal_one n (omega (arith, byte.1)))

-- by the number of its bytes
only_in : (steps n : ℕ) (text : List ℕ) → length text < steps → DecimalOf n text → text ≡ decimal n
only_in zero n text h t = absurd (omega arith)
only_in (suc steps) n [] h t = absurd (omega (arith, t.not_empty))
only_in (suc steps) n (x ∷ xs) h t =
    let parts = last_of x xs in
    let counted = ap length parts.2 ∙ length-append parts.0 (parts.1 ∷ []) in
    parts.2
    ∙ split parts.0 parts.1 (subst (DecimalOf n) parts.2 t)
    (λ m. only_in steps m parts.0 (omega (arith, counted)))
  where
    split : (ys : List ℕ) (y : ℕ) → DecimalOf n (ys ++ (y ∷ [])) → ((m : ℕ) → DecimalOf m ys → ys ≡ decimal m)
        → ys ++ (y ∷ []) ≡ decimal n
    split [] y t f = one_only n y t
    split (z ∷ zs) y t f = more_only n z zs y t f

-- No other text is: `DecimalOf` says all of it.
pub decimal_only : (n : ℕ) (text : List ℕ) → DecimalOf n text → text ≡ decimal n
decimal_only n text t = only_in (suc (length text)) n text (omega arith) t
