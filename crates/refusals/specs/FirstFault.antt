-- Reading stops at the first fault: how rules are put in document 01's order.
use Rattle.std.specs.Prelude.{ℕ, zero, suc, Bool, true, false, List, [], ◌∷◌, Result, Ok, Err}
use Rattle.refusals.specs.declared.rule.Rule.{Rule}
use Rattle.refusals.specs.declared.refusal.Refusal.{Refusal}

-- What judging finds: the first fault as an error, or that there is none.
abbrev pub FirstFault : Type 0
FirstFault = Result (Unit {0}) Refusal

-- The fault at a place, unless the rule is kept.
abbrev pub unless : Bool → Rule → ℕ → FirstFault
unless true rule place = Ok tt
unless false rule place = Err (record { rule = rule; place = place })

infixr 20 ◌or_else◌
-- The first fault, or else the second.
abbrev pub ◌or_else◌ : FirstFault → FirstFault → FirstFault
(Err r) or_else f = Err r
(Ok tt) or_else f = f

-- The first fault of a list of rules, in their order.
abbrev pub first_of : List FirstFault → FirstFault
first_of [] = Ok tt
first_of (f ∷ fs) = f or_else first_of fs

-- The first fault among the first n of a row of things: that of those before the last, or else the last one's.
unfoldable pub first_among : (ℕ → FirstFault) → ℕ → FirstFault
first_among fault zero = Ok tt
first_among fault (suc n) = first_among fault n or_else fault n

-- Refused by a fault, or where there is none accepted with what it holds.
abbrev pub judged_by : {C : Type 0} → FirstFault → C → Result C Refusal
judged_by (Err r) held = Err r
judged_by (Ok tt) held = Ok held
