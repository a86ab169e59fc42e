-- The book that cases are computed for.
use Rattle.std.specs.Prelude.{ℕ, List, [], ◌∷◌, ◌++◌}
use Rattle.fields.specs.Fields.{bytes32}

-- A window of an event below 256.
abbrev pub window : ℕ → ℕ → ℕ → List ℕ
window event first end = (event ∷ 0 ∷ []) ++ (bytes32 first ++ bytes32 end)

-- Event 1 is out of service from hour 100 to hour 104 and, by a window that overlaps, from 102 to 106; event 0 in the
-- last hour that any window can have.
abbrev pub plan : List ℕ
plan = window 1 100 104 ++ (window 1 102 106 ++ window 0 4294967294 4294967295)
