-- What is printed of an end.
use Rattle.std.specs.Prelude.{ℕ, Bool, true, false}

-- The mark of an end: `=` is exact, `~` is not.
abbrev pub mark : Bool → ℕ
mark true = 61
mark false = 126
