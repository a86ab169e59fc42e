-- The numbers that stand in the bytes of a file: unsigned, low byte first.
use Rattle.std.specs.Prelude.{ℕ, zero, suc, ◌+◌, ◌*◌, ◌/◌, ◌%◌, ◌<◌, ◌≡◌, List, [], ◌∷◌, ◌++◌, get_or, take, drop}

-- The byte at an offset; 0 past the end, where nothing is read: 01's rules 1 and 5 on a file's length come first.
abbrev pub byte : List ℕ → ℕ → ℕ
byte s at = get_or s at 0

-- The 16-bit field at an offset.
unfoldable pub field16 : List ℕ → ℕ → ℕ
field16 s at = byte s at + 256 * byte s (at + 1)

-- The 24-bit field at an offset.
unfoldable pub field24 : List ℕ → ℕ → ℕ
field24 s at = byte s at + 256 * byte s (at + 1) + 65536 * byte s (at + 2)

-- The 32-bit field at an offset.
unfoldable pub field32 : List ℕ → ℕ → ℕ
field32 s at = field16 s at + 65536 * field16 s (at + 2)

-- The four bytes of a 32-bit number: `field32` reads them as that number (`field32_bytes32`).
abbrev pub bytes32 : ℕ → List ℕ
bytes32 n = n % 256 ∷ n / 256 % 256 ∷ n / 256 / 256 % 256 ∷ n / 256 / 256 / 256 % 256 ∷ []

-- The three bytes of a 24-bit number: `field24` reads them as that number (`field24_bytes24`).
abbrev pub bytes24 : ℕ → List ℕ
bytes24 n = n % 256 ∷ n / 256 % 256 ∷ n / 256 / 256 % 256 ∷ []

-- The first n of a row of parts, one after the other.
unfoldable pub joined : (ℕ → List ℕ) → ℕ → List ℕ
joined part zero = []
joined part (suc n) = joined part n ++ part n

-- A file with n parts of m bytes each in place of what stands from an offset on.
abbrev pub with_parts : ℕ → ℕ → (ℕ → List ℕ) → ℕ → List ℕ → List ℕ
with_parts at m part n file = take at file ++ (joined part n ++ drop (at + m * n) file)

-- r is the number x, and a 16-bit one.
pub record Is16 (r x : ℕ) : Type 0 where
  pub value : r ≡ x
  pub small : r < 65536
