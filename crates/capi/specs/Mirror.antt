-- De Morgan's law of what mirroring answers C.
use Rattle.std.specs.Prelude.{ℕ, ◌≡◌, List}
use Rattle.theory.specs.Unit.{billion}
use Rattle.held_files.specs.declared.state.State.{State as Held}
use Rattle.success_tree.specs.Law.{Law}
use Rattle.c_structs.specs.declared.answer.Answer.{Answer}

-- Of every answer whose number is 0: success_tree's `Law` of the two stores and the two buffers after it.
abbrev pub LawKept : Answer → Held → List ℕ → List ℕ → List ℕ → List ℕ → Type 0
LawKept answer held tree_store sheet_store tree_buffer sheet_buffer =
    answer.refusal.number ≡ 0 → Law billion held tree_store sheet_store tree_buffer sheet_buffer
