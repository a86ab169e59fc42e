-- The checksum of numbers.
use Rattle.std.specs.Prelude.{ℕ, ◌+◌, ◌*◌, ◌%◌, List, fold}

-- The greatest prime below 2^32.
abbrev pub prime : ℕ
prime = 4294967291

-- The sum after one more number.
abbrev pub with_number : ℕ → ℕ → ℕ
with_number sum number = (sum * 257 + number) % prime

abbrev pub sum_of : List ℕ → ℕ
sum_of numbers = fold with_number 0 numbers
