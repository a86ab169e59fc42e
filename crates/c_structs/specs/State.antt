-- The state as C holds it, and the monitor's.
use Rattle.held_files.specs.declared.state.State.{State as Held}
use Rattle.c_structs.specs.declared.state.State.{State}

-- The monitor's state of the two lengths that C hands in.
abbrev pub held_of : State → Held
held_of state = record { tree_len = state.tree_len; sheet_len = state.sheet_len }

-- The two lengths that C gets back.
abbrev pub state_of : Held → State
state_of held = record { tree_len = held.tree_len; sheet_len = held.sheet_len }
