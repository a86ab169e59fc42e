-- What a hand-in answers C.
use Rattle.refusals.specs.FirstFault.{FirstFault}
use Rattle.held_files.specs.declared.state.State.{State as Held}
use Rattle.held_files.specs.declared.state.Reply.{Reply}
use Rattle.c_structs.specs.State.{state_of}
use Rattle.c_structs.specs.Refusal.{refusal_in}
use Rattle.c_structs.specs.declared.answer.Answer.{Answer}

-- The state after a hand-in or a mirroring, and the refusal of what it came to.
abbrev pub answer_by : Held → FirstFault → Answer
answer_by held outcome = record { state = state_of held; refusal = refusal_in outcome }

-- The answer for C of a hand-in or a mirroring.
abbrev pub answer_for : Reply (Unit {0}) → Answer
answer_for reply = answer_by reply.state reply.outcome
