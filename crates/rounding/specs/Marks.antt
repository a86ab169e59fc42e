-- The mark byte (01): 1 for a lower end that is exact plus 2 for an upper end that is.
use Rattle.std.specs.Prelude.{ℕ, ◌+◌, ◌*◌, ◌/◌, ◌%◌, Bool, cond, eqb}
use Rattle.theory.specs.Rounding.{Direction, down, up}
use Rattle.rounding.specs.declared.end.Enclosure.{Enclosure}

-- the mark byte of both ends
abbrev pub mark_byte : Enclosure → ℕ
mark_byte x = cond x.lower.exact 1 0 + 2 * cond x.upper.exact 1 0

-- whether a mark byte marks the end in a direction
abbrev pub exact_in : Direction → ℕ → Bool
exact_in down m = eqb (m % 2) 1
exact_in up m = eqb (m / 2 % 2) 1
