-- The opinions of an entry as the theory has them: an expert's score byte and term byte are what the expert said.
use Rattle.std.specs.Prelude.{ℕ, zero, suc, ◌-◌, List, [], ◌∷◌, ◌++◌, cond, get_or, eqb}
use Rattle.theory.specs.Opinion.{Term, very_low, low, fairly_low, medium, fairly_high, high, very_high}
use Rattle.theory.specs.Opinion.{Opinion, says, silent}
use Rattle.opinion_sheet.specs.Format.{score, term}

-- The terms in the order of their codes.
abbrev pub terms_in_order : List Term
terms_in_order = very_low ∷ low ∷ fairly_low ∷ medium ∷ fairly_high ∷ high ∷ very_high ∷ []

-- The term of a code: 1 is Very Low, 7 is Very High. Code 0 is no term (`opinion_of`), so that − does not stop at 0;
-- rule 11 excludes a code above 7, so that the default is not reached.
abbrev pub term_of : ℕ → Term
term_of code = get_or terms_in_order (code - 1) very_low

-- What an expert with a score said by a term code: 0 is nothing.
abbrev pub opinion_of : ℕ → ℕ → Opinion
opinion_of given code = cond (eqb code 0) (silent given) (says given (term_of code))

-- The opinions of the first n experts where the terms begin at a place.
unfoldable pub opinions_among : List ℕ → ℕ → ℕ → List Opinion
opinions_among file terms zero = []
opinions_among file terms (suc n) =
    opinions_among file terms n ++ (opinion_of (score file n) (term file terms n) ∷ [])
