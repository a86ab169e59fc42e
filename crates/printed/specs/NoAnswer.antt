-- The text that says why a program has no answer.
use Rattle.std.specs.Prelude.{ℕ, List, ◌++◌, Option, Some, None, codes}
use Rattle.std.specs.Fmt.{decimal}
use Rattle.refusals.specs.Number.{number_of}
use Rattle.refusals.specs.declared.refusal.Refusal.{Refusal}
use Rattle.printed.specs.declared.no_answer.NoAnswer.{NoAnswer}
use Rattle.printed.specs.declared.no_answer.NoAnswer.TheVariants.{Input, Refused, Unwritten}

-- `refused 8 at 34`: a refusal's number and place.
abbrev pub refusal_text : Refusal → List ℕ
refusal_text r = codes "refused " ++ decimal (number_of r.rule) ++ codes " at " ++ decimal r.place

-- Of a failed write the text is the library's own.
abbrev pub text_of : NoAnswer → Option (List ℕ)
text_of (Input wrong) = Some (codes "input")
text_of (Refused r) = Some (refusal_text r)
text_of (Unwritten error) = None
