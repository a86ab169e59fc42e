-- Demands 2 and 3 of the reply for C, from monitor's of its outcome.
use Prim.Native.Nat.{ℕ}
use mathlib.Core.List.{List}
use Rattle.std.specs.Prelude.{Result, Ok, Err}
use Rattle.theory.specs.Unit.{billion}
use Rattle.refusals.specs.declared.refusal.Refusal.{Refusal as Reason}
use Rattle.refusals.proofs.Numbered.{numbered}
use Rattle.work_slices.specs.Slices.{Slices}
use Rattle.monitor.specs.Promise.{PromisesKept as outcome_kept}
use Rattle.held_files.specs.declared.state.State.{State as Held}
use Rattle.monitor.specs.declared.question.Report.{Report}
use Rattle.c_structs.specs.Reply.{reply_by, PromisesKept}

-- A reply with number 0 is an answered one.
pub kept_by : (held : Held) (outcome : Result Report Reason) (tree sheet : List ℕ) (k n : ℕ) (s : Slices)
    → outcome_kept billion outcome tree sheet k n s → PromisesKept (reply_by held outcome) tree sheet k n s
kept_by held (Ok report) tree sheet k n s kept z = kept
kept_by held (Err reason) tree sheet k n s kept z = absurd (numbered reason.rule z)
