-- De Morgan's law of the answer for C, from success_tree's of its outcome.
use Prim.Native.Nat.{ℕ}
use mathlib.Core.List.{List}
use Rattle.std.specs.Prelude.{Ok, Err}
use Rattle.theory.specs.Unit.{billion}
use Rattle.refusals.specs.FirstFault.{FirstFault}
use Rattle.refusals.proofs.Numbered.{numbered}
use Rattle.held_files.specs.declared.state.State.{State as Held}
use Rattle.success_tree.specs.Law.{LawKept as outcome_kept}
use Rattle.c_structs.specs.Answer.{answer_by}
use Rattle.capi.specs.Mirror.{LawKept}

-- An answer with number 0 is of a mirrored pair.
pub law_kept_by : (after : Held) (outcome : FirstFault) (held : Held)
    (tree_store sheet_store tree_buffer sheet_buffer : List ℕ)
    → outcome_kept billion outcome held tree_store sheet_store tree_buffer sheet_buffer
    → LawKept (answer_by after outcome) held tree_store sheet_store tree_buffer sheet_buffer
law_kept_by after (Ok tt) held ts ss tb sb kept z = kept
law_kept_by after (Err reason) held ts ss tb sb kept z = absurd (numbered reason.rule z)
