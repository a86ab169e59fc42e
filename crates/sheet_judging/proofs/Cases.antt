-- Cases computed by the prover: the smallest accepted sheet; for each refusal the smallest sheet that causes it, with
-- number and place; the limits; two faults in one sheet.
use Rattle.std.specs.Prelude.{ℕ, ◌≡◌, refl, List, [], ◌∷◌, ◌++◌, map, replicate, Result, Ok, Err}
use Rattle.fields.specs.Fields.{field16, field24, field32}
use Rattle.refusals.specs.Number.{number_of}
use Rattle.refusals.specs.FirstFault.{first_among}
use Rattle.refusals.specs.declared.refusal.Refusal.{Refusal}
use Rattle.sheet_judging.specs.HeaderRules.{header_fault}
use Rattle.sheet_judging.specs.TermRules.{spoke_among}
use Rattle.sheet_judging.specs.Judged.{fault_of, judged}
use Rattle.sheet_judging.specs.declared.judgement.Counts.{Counts}
use Rattle.opinion_sheet.proofs.SampleSheets.{zeros, header_with, header, zero_entry, unknown, silence, falling}
use Rattle.opinion_sheet.proofs.SampleSheets.{largest, p9, silent, nearly_all_silent, p11, one_term, over}
use Rattle.opinion_sheet.proofs.SampleSheets.{alone, pump, all_failed}

-- A sheet's answer: its tree number, its event and expert counts, or the number and place of its refusal.
pub data Answer : Type 0 where
  accepted : ℕ → ℕ → ℕ → Answer
  refused : ℕ → ℕ → Answer

abbrev answer : Result Counts Refusal → Answer
answer (Ok counts) = accepted counts.number counts.events counts.experts
answer (Err r) = refused (number_of r.rule) r.place

-- A sheet with the answer that it must get.
pub record Case : Type 0 where
  pub file : List ℕ
  pub expected : Answer

abbrev cases : List Case
cases =
    -- four zeros; numbers of U; a tree number with a high byte, 7 + 256 × 1
    record { file = header 1 0 (zeros 16) ++ zero_entry; expected = accepted 7 1 0 }
    ∷ record { file = header 1 0 (zeros 16) ++ largest; expected = accepted 7 1 0 }
    ∷ record { file = header_with 7 1 1 0 0 (zeros 16) ++ zero_entry; expected = accepted 263 1 0 }
    -- opinions: P9's sheet, an expert who said nothing, all but one who did, P11's, and the highest term
    ∷ record { file = p9; expected = accepted 7 1 2 }
    ∷ record { file = silent; expected = accepted 7 1 2 }
    ∷ record { file = nearly_all_silent; expected = accepted 7 1 16 }
    ∷ record { file = p11; expected = accepted 7 1 6 }
    ∷ record { file = one_term 7; expected = accepted 7 1 1 }
    -- sixteen experts with the highest score, all of whom spoke
    ∷ record { file = header 1 16 (replicate 16 100) ++ (1 ∷ replicate 16 7); expected = accepted 7 1 16 }
    -- fractions: 3 of 1,250, all of 1,000,000, none or one of one
    ∷ record { file = pump; expected = accepted 7 1 0 }
    ∷ record { file = alone all_failed; expected = accepted 7 1 0 }
    ∷ record { file = alone (over (1 ∷ 0 ∷ 0 ∷ []) 0 0 1 1); expected = accepted 7 1 0 }
    -- 1: no byte, and one byte too few for the header
    ∷ record { file = []; expected = refused 1 0 }
    ∷ record { file = zeros 25; expected = refused 1 25 }
    -- 2, and 3: version 0, and version 257, whose low byte is 1
    ∷ record { file = zeros 26; expected = refused 2 0 }
    ∷ record { file = 70 ∷ 84 ∷ 83 ∷ zeros 23; expected = refused 3 3 }
    ∷ record { file = 70 ∷ 84 ∷ 83 ∷ 1 ∷ 1 ∷ zeros 21; expected = refused 3 3 }
    -- 4: no event, and 1,025; 1,024 are in range, and the file is too short for them; 17 experts
    ∷ record { file = header 0 0 (zeros 16); expected = refused 4 7 }
    ∷ record { file = header_with 7 0 1 4 0 (zeros 16); expected = refused 4 7 }
    ∷ record { file = header_with 7 0 0 4 0 (zeros 16); expected = refused 5 26 }
    ∷ record { file = header 1 17 (zeros 16) ++ zero_entry; expected = refused 4 9 }
    -- 5: no entry, and one byte too many
    ∷ record { file = header 1 0 (zeros 16); expected = refused 5 26 }
    ∷ record { file = header 1 0 (zeros 16) ++ zero_entry ++ zeros 1; expected = refused 5 44 }
    -- 7: a listed score of 0, and of 101; a score after the last expert
    ∷ record { file = header 1 1 (zeros 16) ++ zero_entry; expected = refused 7 10 }
    ∷ record { file = header 1 1 (101 ∷ zeros 15) ++ zero_entry; expected = refused 7 10 }
    ∷ record { file = header 1 16 (replicate 15 100 ++ 101 ∷ []) ++ zero_entry; expected = refused 7 25 }
    ∷ record { file = header 1 0 (zeros 15 ++ 1 ∷ []) ++ zero_entry; expected = refused 7 25 }
    -- 6
    ∷ record { file = header 1 0 (zeros 16) ++ unknown; expected = refused 6 26 }
    -- 10: a above b, and d one above U
    ∷ record { file = header 1 0 (zeros 16) ++ falling; expected = refused 10 26 }
    ∷ record { file = header 1 0 (zeros 16) ++ (zeros 13 ++ (1 ∷ 202 ∷ 154 ∷ 59 ∷ [])); expected = refused 10 26 }
    -- 11: a term above 7, and one after the last expert
    ∷ record { file = one_term 8; expected = refused 11 27 }
    ∷ record { file = header 1 1 (1 ∷ zeros 15) ++ (1 ∷ 1 ∷ zeros 14 ++ 1 ∷ []); expected = refused 11 42 }
    -- 12, in the first entry and in the second
    ∷ record { file = one_term 0; expected = refused 12 26 }
    ∷ record { file = header 2 0 (zeros 16) ++ zero_entry ++ silence; expected = refused 12 43 }
    -- 28: a denominator of 0, of 1,000,001 and of 65,536 × 16; numerators that fall; a d above the denominator; a last
    -- byte of 1; and in the second entry
    ∷ record { file = alone (2 ∷ zeros 16); expected = refused 28 26 }
    ∷ record { file = alone (over (65 ∷ 66 ∷ 15 ∷ []) 0 0 0 0); expected = refused 28 26 }
    ∷ record { file = alone (over (0 ∷ 0 ∷ 16 ∷ []) 0 0 0 0); expected = refused 28 26 }
    ∷ record { file = alone (over (9 ∷ 0 ∷ 0 ∷ []) 2 1 3 4); expected = refused 28 26 }
    ∷ record { file = alone (over (9 ∷ 0 ∷ 0 ∷ []) 1 3 2 4); expected = refused 28 26 }
    ∷ record { file = alone (over (9 ∷ 0 ∷ 0 ∷ []) 1 2 4 3); expected = refused 28 26 }
    ∷ record { file = alone (over (3 ∷ 0 ∷ 0 ∷ []) 1 2 3 4); expected = refused 28 26 }
    ∷ record { file = alone (2 ∷ 1 ∷ zeros 14 ++ 1 ∷ []); expected = refused 28 26 }
    ∷ record { file = header 2 0 (zeros 16) ++ zero_entry ++ (2 ∷ zeros 16); expected = refused 28 43 }
    ∷ []

-- Sheets with two faults, neighbours in document 01's order: the answer is the earlier.
abbrev two_faults : List Case
two_faults =
    -- 1 before 2 before 3 before 4
    record { file = zeros 25; expected = refused 1 25 }
    ∷ record { file = 70 ∷ 84 ∷ 70 ∷ 2 ∷ zeros 22; expected = refused 2 0 }
    ∷ record { file = 70 ∷ 84 ∷ 83 ∷ 2 ∷ zeros 22; expected = refused 3 3 }
    -- E before the experts before 5
    ∷ record { file = header 0 17 (zeros 16); expected = refused 4 7 }
    ∷ record { file = header 1 17 (zeros 16); expected = refused 4 9 }
    -- 5 before the scores, a score before a later one, the last score before the entries
    ∷ record { file = header 1 1 (zeros 16); expected = refused 5 26 }
    ∷ record { file = header 1 1 (zeros 15 ++ 1 ∷ []) ++ zero_entry; expected = refused 7 10 }
    ∷ record { file = header 1 0 (zeros 15 ++ 1 ∷ []) ++ unknown; expected = refused 7 25 }
    -- the kind first: read as numbers this entry falls, read as opinions it has no such term, read as fractions it does
    -- not end in 0
    ∷ record { file = header 1 0 (zeros 16) ++ (3 ∷ 8 ∷ zeros 14 ++ 1 ∷ []); expected = refused 6 26 }
    -- each kind of fault in an entry before any in the next
    ∷ record { file = header 2 0 (zeros 16) ++ unknown ++ falling; expected = refused 6 26 }
    ∷ record { file = header 2 0 (zeros 16) ++ falling ++ unknown; expected = refused 10 26 }
    ∷ record { file = header 2 0 (zeros 16) ++ (1 ∷ zeros 15 ++ 1 ∷ []) ++ silence; expected = refused 11 42 }
    ∷ record { file = header 2 0 (zeros 16) ++ silence ++ (1 ∷ 1 ∷ zeros 15); expected = refused 12 26 }
    ∷ record { file = header 2 0 (zeros 16) ++ (2 ∷ zeros 16) ++ unknown; expected = refused 28 26 }
    ∷ record { file = header 2 0 (zeros 16) ++ unknown ++ (2 ∷ zeros 16); expected = refused 6 26 }
    ∷ record { file = header 2 0 (zeros 16) ++ (2 ∷ zeros 16) ++ falling; expected = refused 28 26 }
    -- a term before a later one; 11 where no listed expert spoke, and so before 12
    ∷ record { file = header 1 0 (zeros 16) ++ (1 ∷ 0 ∷ 8 ∷ 1 ∷ zeros 13); expected = refused 11 28 }
    ∷ record { file = header 1 1 (1 ∷ zeros 15) ++ (1 ∷ 0 ∷ 1 ∷ zeros 14); expected = refused 11 28 }
    ∷ []

-- Each sheet gets its answer.
pub answers : map (λ (c : Case). answer (judged c.file)) (cases ++ two_faults)
    ≡ map (λ (c : Case). c.expected) (cases ++ two_faults)
unfolding fault_of first_among header_fault spoke_among field16 field24 field32
answers = refl
