-- Counts over the first records of a file.
use Rattle.std.specs.Prelude.{ℕ, zero, suc, ◌+◌, Bool, cond, List, eqb}
use Rattle.tree_file.specs.Format.{event_kind, field_b, kind, node_count}

-- Node i is a basic event.
abbrev pub is_basic : List ℕ → ℕ → Bool
is_basic file i = eqb (kind file i) event_kind

-- The number of inputs of node i: b of a gate, none of a basic event. Rule 6 refuses any other kind.
unfoldable pub input_count : List ℕ → ℕ → ℕ
input_count file i = cond (is_basic file i) 0 (field_b file i)

-- The number of basic events among the first i nodes.
unfoldable pub events_before : List ℕ → ℕ → ℕ
events_before file zero = 0
events_before file (suc i) = events_before file i + cond (is_basic file i) 1 0

-- E, the number of basic events.
abbrev pub event_count : List ℕ → ℕ
event_count file = events_before file (node_count file)

-- The sum of b over the gates among the first i nodes.
unfoldable pub inputs_before : List ℕ → ℕ → ℕ
inputs_before file zero = 0
inputs_before file (suc i) = inputs_before file i + input_count file i
