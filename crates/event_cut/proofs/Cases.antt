-- Cases computed by the prover: document 01's P5 and P9 to P12, each of the seven terms, silence, and failures over
-- starts, at levels.
use Rattle.std.specs.Prelude.{ℕ, ◌≡◌, refl, List, [], ◌∷◌, ◌++◌, map, Bool, true, false}
use Rattle.theory.specs.Unit.{billion}
use Rattle.theory.specs.Trapezoid.{cut}
use Rattle.theory.specs.Rounding.{rounded, nothing_dropped, cut_end}
use Rattle.fields.specs.Fields.{field16, field24, field32}
use Rattle.rounding.specs.declared.end.Enclosure.{Enclosure}
use Rattle.event_cut.specs.Opinion.{opinions_among}
use Rattle.event_cut.specs.EventCut.{cut_at}
use Rattle.opinion_sheet.proofs.SampleSheets.{p5, p9, silent, nearly_all_silent, p11, one_term}
use Rattle.opinion_sheet.proofs.SampleSheets.{alone, pump, third, around_third, all_failed, rare}

-- An entry alone in a sheet, a level k of n, and the cut that document 01 gives.
pub record CutCase : Type 0 where
  pub file : List ℕ
  pub k : ℕ
  pub n : ℕ
  pub expected : Enclosure

abbrev between : ℕ → Bool → ℕ → Bool → Enclosure
between lower lower_exact upper upper_exact =
    record {
      lower = record { value = lower; exact = lower_exact };
      upper = record { value = upper; exact = upper_exact };
    }

abbrev cut_cases : List CutCase
cut_cases =
    record { file = p5; k = 1; n = 2; expected = between 0 false 2 false }
    ∷ record { file = p5; k = 2; n = 2; expected = between 1 true 1 true }
    ∷ record { file = p9; k = 2; n = 2; expected = between 176666666 false 176666667 false }
    ∷ record { file = p9; k = 0; n = 2; expected = between 103333333 false 250000000 true }
    ∷ record { file = p11; k = 0; n = 2; expected = between 624838709 false 818387097 false }
    ∷ record { file = p11; k = 2; n = 2; expected = between 723548387 false 723548388 false }
    ∷ []

-- The seven terms, each by one expert, at k = 0 (from a to d) and at k = n (b = c alone).
abbrev term_cases : List CutCase
term_cases =
    record { file = one_term 1; k = 0; n = 2; expected = between 0 true 80000000 true }
    ∷ record { file = one_term 1; k = 2; n = 2; expected = between 40000000 true 40000000 true }
    ∷ record { file = one_term 2; k = 0; n = 2; expected = between 70000000 true 190000000 true }
    ∷ record { file = one_term 2; k = 2; n = 2; expected = between 130000000 true 130000000 true }
    ∷ record { file = one_term 3; k = 0; n = 2; expected = between 170000000 true 370000000 true }
    ∷ record { file = one_term 3; k = 2; n = 2; expected = between 270000000 true 270000000 true }
    ∷ record { file = one_term 4; k = 0; n = 2; expected = between 350000000 true 650000000 true }
    ∷ record { file = one_term 4; k = 2; n = 2; expected = between 500000000 true 500000000 true }
    ∷ record { file = one_term 5; k = 0; n = 2; expected = between 620000000 true 820000000 true }
    ∷ record { file = one_term 5; k = 2; n = 2; expected = between 730000000 true 730000000 true }
    ∷ record { file = one_term 6; k = 0; n = 2; expected = between 810000000 true 930000000 true }
    ∷ record { file = one_term 6; k = 2; n = 2; expected = between 870000000 true 870000000 true }
    ∷ record { file = one_term 7; k = 0; n = 2; expected = between 920000000 true 1000000000 true }
    ∷ record { file = one_term 7; k = 2; n = 2; expected = between 960000000 true 960000000 true }
    ∷ []

-- Silence counts as (0, 0, 100, 100) hundredths with its score. Low with a score of 2 and silence with 1 have the sums
-- 14, 26, 126 and 138 over 300; Very High with 1 and silence with 1,500 have 92, 96, 150,096 and 150,100 over 150,100.
abbrev silence_cases : List CutCase
silence_cases =
    record { file = silent; k = 0; n = 2; expected = between 46666666 false 460000000 true }
    ∷ record { file = silent; k = 1; n = 2; expected = between 66666666 false 440000000 true }
    ∷ record { file = silent; k = 2; n = 2; expected = between 86666666 false 420000000 true }
    ∷ record { file = nearly_all_silent; k = 0; n = 2; expected = between 612924 false 1000000000 true }
    ∷ record { file = nearly_all_silent; k = 2; n = 2; expected = between 639573 false 999973352 false }
    ∷ []

-- Failures over starts: 3 of 1,250 and 1 of 1,000,000 are whole units, 1 of 3 is not; at half the level the cut of 0, 1
-- and 2 of 3 goes from a sixth to a half, divided once; all of 1,000,000 is 1.
abbrev fraction_cases : List CutCase
fraction_cases =
    record { file = pump; k = 0; n = 1; expected = between 2400000 true 2400000 true }
    ∷ record { file = pump; k = 7; n = 1000; expected = between 2400000 true 2400000 true }
    ∷ record { file = rare; k = 1; n = 1; expected = between 1000 true 1000 true }
    ∷ record { file = third; k = 0; n = 1; expected = between 333333333 false 333333334 false }
    ∷ record { file = third; k = 3; n = 3; expected = between 333333333 false 333333334 false }
    ∷ record { file = around_third; k = 0; n = 2; expected = between 0 true 666666667 false }
    ∷ record { file = around_third; k = 1; n = 2; expected = between 166666666 false 500000000 true }
    ∷ record { file = alone all_failed; k = 0; n = 1000; expected = between 1000000000 true 1000000000 true }
    ∷ []

abbrev all_cut_cases : List CutCase
all_cut_cases = cut_cases ++ term_cases ++ silence_cases ++ fraction_cases

-- Each cut is the one given.
pub cuts : map (λ (c : CutCase). cut_at billion c.file 0 c.k c.n) all_cut_cases
    ≡ map (λ (c : CutCase). c.expected) all_cut_cases
unfolding opinions_among field16 field24 field32 cut cut_end rounded nothing_dropped
cuts = refl
