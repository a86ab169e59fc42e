-- The sheets that cases are computed for: document 01's P5 and P9 to P12, the limits of an entry, the smallest sheets
-- with opinions, silence and fractions.
use Rattle.std.specs.Prelude.{ℕ, List, [], ◌∷◌, ◌++◌, replicate}

-- Some bytes of 0.
abbrev pub zeros : ℕ → List ℕ
zeros n = replicate n 0

-- A header of version 1 with these bytes for the number of the tree, for E and for the experts, and these scores.
abbrev pub header_with : ℕ → ℕ → ℕ → ℕ → ℕ → List ℕ → List ℕ
header_with t u e f experts scores = (70 ∷ 84 ∷ 83 ∷ 1 ∷ 0 ∷ t ∷ u ∷ e ∷ f ∷ experts ∷ []) ++ scores

-- A header of version 1 for tree 7 with these events, experts and sixteen scores.
abbrev pub header : ℕ → ℕ → List ℕ → List ℕ
header events experts scores = header_with 7 0 events 0 experts scores

-- An entry of four zeros, one of unknown kind, and one in which nobody spoke.
abbrev pub zero_entry : List ℕ
zero_entry = zeros 17

abbrev pub unknown : List ℕ
unknown = 3 ∷ zeros 16

abbrev pub silence : List ℕ
silence = 1 ∷ zeros 16

-- An entry whose a is above its b.
abbrev pub falling : List ℕ
falling = 0 ∷ 1 ∷ zeros 15

-- The bytes of U, and the entry with the largest numbers.
abbrev pub unit_bytes : List ℕ
unit_bytes = 0 ∷ 202 ∷ 154 ∷ 59 ∷ []

abbrev pub largest : List ℕ
largest = (0 ∷ unit_bytes) ++ unit_bytes ++ unit_bytes ++ unit_bytes

-- P5's entry (0, 1, 1, 2).
abbrev pub p5 : List ℕ
p5 = header 1 0 (zeros 16) ++ (zeros 5 ++ (1 ∷ zeros 3) ++ (1 ∷ zeros 3) ++ (2 ∷ zeros 3))

-- P9 and P10: scores 2, 1, terms Low, Fairly Low.
abbrev pub p9 : List ℕ
p9 = header 1 2 (2 ∷ 1 ∷ zeros 14) ++ (1 ∷ 2 ∷ 3 ∷ zeros 14)

-- The same two experts, the second silent, who counts with a score of 1.
abbrev pub silent : List ℕ
silent = header 1 2 (2 ∷ 1 ∷ zeros 14) ++ (1 ∷ 2 ∷ zeros 15)

-- Sixteen experts, all silent but the last, whose score of 1 stands beside fifteen of 100.
abbrev pub nearly_all_silent : List ℕ
nearly_all_silent = header 1 16 (replicate 15 100 ++ 1 ∷ []) ++ (1 ∷ zeros 15 ++ 7 ∷ [])

-- P11 and P12: six experts of source document 000.
abbrev pub p11 : List ℕ
p11 = header 1 6 (15 ∷ 12 ∷ 10 ∷ 12 ∷ 5 ∷ 8 ∷ zeros 10) ++ (1 ∷ 6 ∷ 5 ∷ 6 ∷ 4 ∷ 6 ∷ 4 ∷ zeros 10)

-- One expert, with a score of 3, who gave a term by its code.
abbrev pub one_term : ℕ → List ℕ
one_term code = header 1 1 (3 ∷ zeros 15) ++ (1 ∷ code ∷ zeros 15)

-- A fraction entry with these bytes for its denominator, and each of its numerators in one byte.
abbrev pub over : List ℕ → ℕ → ℕ → ℕ → ℕ → List ℕ
over den a b c d = (2 ∷ den) ++ (a ∷ 0 ∷ 0 ∷ b ∷ 0 ∷ 0 ∷ c ∷ 0 ∷ 0 ∷ d ∷ 0 ∷ 0 ∷ 0 ∷ [])

-- A sheet for one event, without experts.
abbrev pub alone : List ℕ → List ℕ
alone entry = header 1 0 (zeros 16) ++ entry

-- 3 failures in 1,250 starts, 226 + 256 × 4.
abbrev pub pump : List ℕ
pump = alone (over (226 ∷ 4 ∷ 0 ∷ []) 3 3 3 3)

-- One third, and what lies around it: none, one or two of three.
abbrev pub third : List ℕ
third = alone (over (3 ∷ 0 ∷ 0 ∷ []) 1 1 1 1)

abbrev pub around_third : List ℕ
around_third = alone (over (3 ∷ 0 ∷ 0 ∷ []) 0 1 1 2)

-- The bytes of 1,000,000, and the entry with the largest fractions.
abbrev pub million_bytes : List ℕ
million_bytes = 64 ∷ 66 ∷ 15 ∷ []

abbrev pub all_failed : List ℕ
all_failed = (2 ∷ million_bytes) ++ million_bytes ++ million_bytes ++ million_bytes ++ million_bytes ++ zeros 1

-- One failure in 1,000,000 starts.
abbrev pub rare : List ℕ
rare = alone (over million_bytes 1 1 1 1)
