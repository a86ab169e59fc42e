-- What a question answers C, and demands 2 and 3 of that reply.
use Rattle.std.specs.Prelude.{ℕ, ◌≡◌, false, List, Result, Ok, Err}
use Rattle.refusals.specs.declared.refusal.Refusal.{Refusal as Reason}
use Rattle.theory.specs.Unit.{billion}
use Rattle.work_slices.specs.Slices.{Slices}
use Rattle.monitor.specs.Promise.{Kept}
use Rattle.held_files.specs.declared.state.State.{State as Held}
use Rattle.monitor.specs.declared.question.Report.{Report}
use Rattle.held_files.specs.declared.state.Reply.{Reply as Replied}
use Rattle.c_structs.specs.State.{state_of}
use Rattle.c_structs.specs.Refusal.{not_refused, refused_by}
use Rattle.c_structs.specs.declared.reply.Reply.{Reply}

-- The root's results and E where the question is answered. Refused, the enclosure that says nothing: 0 to 1, unmarked.
abbrev pub reply_by : Held → Result Report Reason → Reply
reply_by held (Ok report) = record {
  state = state_of held;
  refusal = not_refused;
  lower = report.ends.lower.value;
  upper = report.ends.upper.value;
  lower_exact = report.ends.lower.exact;
  upper_exact = report.ends.upper.exact;
  events = report.events;
}
reply_by held (Err reason) = record {
  state = state_of held;
  refusal = refused_by reason;
  lower = 0;
  upper = billion;
  lower_exact = false;
  upper_exact = false;
  events = 0;
}

-- The reply of the monitor for C.
abbrev pub reply_for : Replied Report → Reply
reply_for reply = reply_by reply.state reply.outcome

-- The report that a reply repeats.
abbrev pub report_in : Reply → Report
report_in reply = record {
  ends = record {
    lower = record { value = reply.lower; exact = reply.lower_exact };
    upper = record { value = reply.upper; exact = reply.upper_exact };
  };
  events = reply.events;
}

-- Demands 2 and 3 of every reply whose number is 0: monitor's `Kept` of the report in it and of every node's place.
abbrev pub PromisesKept : Reply → List ℕ → List ℕ → ℕ → ℕ → Slices → Type 0
PromisesKept reply tree sheet k n s = reply.refusal.number ≡ 0 → Kept billion (report_in reply) tree sheet k n s
