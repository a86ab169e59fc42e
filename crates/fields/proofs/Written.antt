-- A number that is written as its bytes is read as that number.
use Prim.Native.Nat.{ℕ, ◌<◌}
use mathlib.Core.Path.{◌≡◌}
use native.Mathlib.Omega.{arith}
use Rattle.fields.specs.Fields.{field16, field24, field32, bytes24, bytes32}

pub field32_bytes32 : (n : ℕ) → n < 4294967296 → field32 (bytes32 n) 0 ≡ n
unfolding field32 field16
field32_bytes32 n l = omega arith

pub field24_bytes24 : (n : ℕ) → n < 16777216 → field24 (bytes24 n) 0 ≡ n
unfolding field24
field24_bytes24 n l = omega arith
