-- For callers: the front of a slice has its length.
use Prim.Native.Nat.{ℕ, ◌≤◌}
use mathlib.Core.Path.{◌≡◌, sym}
use mathlib.Core.List.{List}
use lib.ListN.{length, take}
use lib.Seq.{length-take-le}

-- the front that has n elements has n elements
pub counted_front : (n : ℕ) (xs : List ℕ) → n ≤ length xs → n ≡ length (take n xs)
counted_front n xs l = sym (length-take-le n xs l)
