-- A number in decimal, in ASCII, without leading zeros. The definition is the reckoning; what it means is `DecimalOf`,
-- and `decimal_means` of proofs/Decimals says that it does.
use Rattle.std.specs.Prelude.{ℕ, zero, suc, ◌+◌, ◌-◌, ◌*◌, ◌/◌, ◌%◌, ◌≤◌, ◌≡◌, cond, List, [], ◌∷◌, ◌++◌, length, get_or, ltb}

-- The code of a digit: `0` is 48.
abbrev pub digit : ℕ → ℕ
digit d = 48 + d

-- The digits of a number in at most that many steps: its tenth's, unless it has one digit, and its last. `decimal`
-- gives so many steps that they do not run out.
abbrev pub decimal_in : ℕ → ℕ → List ℕ
decimal_in zero n = []
decimal_in (suc steps) n = cond (ltb n 10) (digit n ∷ []) (decimal_in steps (n / 10) ++ (digit (n % 10) ∷ []))

-- A number above 0 is above its tenth, so n + 1 steps are enough.
unfoldable pub decimal : ℕ → List ℕ
decimal n = decimal_in (suc n) n

-- A byte is a digit: from `0` (48) to `9` (57).
abbrev pub IsDigit : ℕ → Type 0
IsDigit byte = (48 ≤ byte) × (byte ≤ 57)

-- Every byte of a text is a digit.
abbrev pub AllDigits : List ℕ → Type 0
AllDigits [] = Unit {0}
AllDigits (byte ∷ more) = IsDigit byte × AllDigits more

-- The number that digits say, most significant first, after digits that say `before`. A digit is 48 or more, so that
-- the subtraction does not stop at 0.
abbrev pub read_after : ℕ → List ℕ → ℕ
read_after before [] = before
read_after before (byte ∷ more) = read_after (10 * before + (byte - 48)) more

-- The number that a text of digits says.
abbrev pub read_back : List ℕ → ℕ
read_back text = read_after 0 text

-- The text is the number n in decimal without leading zeros.
pub record DecimalOf (n : ℕ) (text : List ℕ) : Type 0 where
  -- there is a digit, and all bytes are digits
  pub not_empty : 1 ≤ length text
  pub digits : AllDigits text
  -- they say the number
  pub says : read_back text ≡ n
  -- where the first is `0`, the number is 0 and has no other digit; there is a first, by `not_empty`, so that the
  -- default is not reached
  pub no_leading_zero : get_or text 0 0 ≡ 48 → (n ≡ 0) × (length text ≡ 1)
