-- A question leaves the lent slices as long as they were.
use Rattle.std.proofs.Common.{ℕ, List, refl, arith}
use Rattle.std.specs.Prelude.{Ok, Err}
use Rattle.work_slices.specs.Slices.{Slices, Long}
use Rattle.work_slices.proofs.Places.{SameLength, same_long}
use Rattle.work_slices.proofs.Turns.{turns_length, filled_local}
use Rattle.monitor.specs.Question.{slices_by, slices_left}
use Rattle.held_files.specs.declared.state.State.{State}

-- whether the question is answered or refused
by_fault : (fault : _) {before after : Slices} → SameLength after before → SameLength (slices_by fault before after) before
by_fault (Err r) same = λ p. refl
by_fault (Ok tt) same = same

pub left_long : (state : State) (tree_store sheet_store : List ℕ) (k n : ℕ) (s : Slices) (places : ℕ) → Long places s
    → Long places (slices_left state tree_store sheet_store k n s)
unfolding slices_left
left_long state tree_store sheet_store k n s places long =
    same_long (by_fault _ (turns_length (filled_local _) _ s)) (omega arith) long
