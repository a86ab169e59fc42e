-- A refusal as C gets it: its number and place in document 01.
use Rattle.std.specs.Prelude.{Result, Ok, Err}
use Rattle.refusals.specs.Number.{number_of}
use Rattle.refusals.specs.declared.refusal.Refusal.{Refusal as Reason}
use Rattle.c_structs.specs.declared.refusal.Refusal.{Refusal}

-- Number 0: the call was not refused. No rule has it (refusals' `numbered`).
abbrev pub not_refused : Refusal
not_refused = record { number = 0; place = 0 }

-- The number and the place of a refusal.
abbrev pub refused_by : Reason → Refusal
refused_by reason = record { number = number_of reason.rule; place = reason.place }

-- The refusal of a call by what it comes to.
abbrev pub refusal_in : {T : Type 0} → Result T Reason → Refusal
refusal_in (Ok x) = not_refused
refusal_in (Err reason) = refused_by reason
