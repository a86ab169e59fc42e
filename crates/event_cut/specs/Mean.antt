-- The sums that the code keeps of the opinions of an entry, weighted by score over all listed experts. They stand for
-- contracts of inner functions only: `mean_of` answers the theory's mean.
use Rattle.std.specs.Prelude.{ℕ, ◌+◌, ◌-◌, ◌*◌, List, [], cond, eqb, get_or}
use Rattle.opinion_sheet.specs.declared.numbers.Numbers.{Numbers}
use Rattle.opinion_sheet.specs.declared.fractions.Fractions.{Fractions}
use Rattle.event_cut.specs.declared.mean.Sums.{Sums}

-- The four numbers of a term, by its row of the table: its a, its b = c twice, and its d. A row has three numbers, so
-- that no default is reached.
abbrev pub row_numbers : List ℕ → Numbers ℕ
row_numbers row = record { a = get_or row 0 0; b = get_or row 1 0; c = get_or row 1 0; d = get_or row 2 0 }

-- The four numbers of silence: all from 0 to 1 stays fully possible.
abbrev pub silence_numbers : Numbers ℕ
silence_numbers = record { a = 0; b = 0; c = 100; d = 100 }

-- The four numbers of what is said by a term code, by the rows of the table: 0 is silence. `with_said` asks for a
-- code of at most 7, so that − does not stop at 0 and no default is reached.
abbrev pub said_numbers : List (List ℕ) → ℕ → Numbers ℕ
said_numbers rows code = cond (eqb code 0) silence_numbers (row_numbers (get_or rows (code - 1) []))

-- The sums with one opinion more: its score, and score × value for each of its four numbers.
abbrev pub with_opinion : Sums → Numbers ℕ → ℕ → Sums
with_opinion sums numbers given =
    record {
      scores = sums.scores + given;
      weighted = record {
        a = sums.weighted.a + given * numbers.a;
        b = sums.weighted.b + given * numbers.b;
        c = sums.weighted.c + given * numbers.c;
        d = sums.weighted.d + given * numbers.d;
      };
    }

-- The mean by its sums: in hundredths, so over 100 × the scores. `mean_by` asks for a score of at least 1.
abbrev pub mean_by : Sums → Fractions
mean_by sums = record { den = 100 * sums.scores; numerators = sums.weighted }
